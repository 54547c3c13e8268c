-- Names that images of one signer share, by their numbers.
use Rattle.std.specs.Prelude.{ℕ, ◌+◌, ◌/◌, ◌≤◌, ◌<◌, ◌≡◌, List, Bool, true, false, ◌&&◌, eqb, get_or}
use Rattle.laws.specs.Any.{any_of}
use Rattle.laws.specs.Order.{same}
use Rattle.reference_digests.specs.Algorithms.{byte_of}
use Rattle.reference_digests.specs.declared.algorithm.Algorithm.{Algorithm}
use Rattle.manifest_index.specs.Index.{name_at}
use Rattle.manifest.specs.Manifest.{self_names}
use Rattle.store_record.specs.Reading.{between, no_record}
use Rattle.store_record.specs.declared.Record.{Record}
use Rattle.store_record.specs.declared.Survey.{Survey}

-- the image of a record is of that algorithm and signer
unfoldable pub signed_as : List ℕ → Algorithm → List ℕ → Record → Bool
signed_as b a signer r = eqb (byte_of a) (byte_of r.algorithm) && same signer (between b r.signer r.manifest)

-- the images of two records are of one algorithm and signer
abbrev pub one_signer : List ℕ → Record → Record → Bool
one_signer b q r = signed_as b q.algorithm (between b q.signer q.manifest) r

-- some name of the first list stands in the second
abbrev pub named : List (List ℕ) → List (List ℕ) → Bool
named ns ms = any_of (λ (n : List ℕ). any_of (same n) ms) ns

-- the names that the image of a record has for itself
abbrev pub own_names : List ℕ → Record → List (List ℕ)
own_names b r = self_names (between b r.text r.end)

-- the images of two records are of one algorithm and signer and have a name in common
abbrev pub have_shared : List ℕ → Record → Record → Bool
have_shared b q r = one_signer b q r && named (own_names b q) (own_names b r)

-- r is the index of the first image of that algorithm and signer among the first k images, and k where none of these is
pub record FirstSigned (b : List ℕ) (v : Survey) (a : Algorithm) (signer : List ℕ) (k r : ℕ) : Type 0 where
  pub within : r ≤ k
  pub before : (j : ℕ) → j < r → signed_as b a signer (get_or v.records j no_record) ≡ false
  pub here : r < k → signed_as b a signer (get_or v.records r no_record) ≡ true

-- so far as image n, `groups` has for each image the index of the first one of its algorithm and signer
pub record GroupsOf (b : List ℕ) (v : Survey) (n : ℕ) (groups : List ℕ) : Type 0 where
  pub each :
      (i : ℕ) → i < n
      → FirstSigned b v (get_or v.records i no_record).algorithm (between b (get_or v.records i no_record).signer (get_or v.records i no_record).manifest) i
      (get_or groups i 0)

-- the group of the image whose alias has that number
unfoldable pub group_of : List ℕ → ℕ → ℕ
group_of groups e = get_or groups (e / 64) 0

-- two numbers are those of one name, of images of one group
unfoldable pub shared : List ℕ → List ℕ → List ℕ → ℕ → ℕ → Bool
shared b at groups e f = eqb (group_of groups e) (group_of groups f) && same (name_at b at e) (name_at b at f)

-- of the places of the index before place m, those from `start` on have its name, and no others
pub record Run (b at order : List ℕ) (start m : ℕ) : Type 0 where
  pub within : start ≤ m
  pub other : (i : ℕ) → i < start → same (name_at b at (get_or order m 0)) (name_at b at (get_or order i 0)) ≡ false
  pub equal : (i : ℕ) → start ≤ i → i < m → same (name_at b at (get_or order m 0)) (name_at b at (get_or order i 0)) ≡ true

-- the same for the place before place m, if there is one
abbrev pub RunBefore : List ℕ → List ℕ → List ℕ → ℕ → ℕ → Type 0
RunBefore b at order start m = (n : ℕ) → m ≡ n + 1 → Run b at order start n
