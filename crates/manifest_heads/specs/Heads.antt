-- The heads of names: their first four bytes, each as one number.
use Rattle.std.specs.Prelude.{ℕ, ◌+◌, ◌<◌, ◌≤◌, ◌≡◌, List, length, get_or}
use Rattle.text_names.specs.Head.{head_of}
use Rattle.text_strings.specs.InString.{content_from}

-- `heads` begins with the heads of the names that have the positions ks
pub record HeadsOf (s ks heads : List ℕ) : Type 0 where
  pub long : length ks ≤ length heads
  pub each : (i : ℕ) → i < length ks → get_or heads i 0 ≡ head_of (content_from s (get_or ks i 0 + 1))
