-- What reading an entry at a position answers, by what stands there.
use Rattle.std.specs.Prelude.{Some, None}
use Prim.Native.Nat.{ℕ, ◌+◌, ◌-◌, ◌≤◌, ◌<◌}
use mathlib.Core.Path.{◌≡◌, refl, sym, ap, ◌∙◌}
use mathlib.Core.List.{List, ◌∷◌}
use native.Mathlib.Omega.{arith}
use native.Mathlib.Numerals.{add-one}
use lib.ListN.{length, take, drop, get_or, length-drop}
use lib.Seq.{drop-cons, drop-drop}
use Rattle.reference_digests.specs.Algorithms.{digest_bytes, numbered}
use Rattle.reference_digests.specs.declared.algorithm.Algorithm.{Algorithm}
use Rattle.lookup_layers.specs.Layers.{entry, first_of}
use Rattle.lookup_layers.specs.Reading.{EntryAt, Reads}
use Rattle.lookup_layers.proofs.Entries.{first_unknown, first_cut, first_whole}

module _ (s : List ℕ) (i : ℕ) (more : i < length s) where
  start : drop i s ≡ get_or s i 0 ∷ drop (i + 1) s
  start = rw (add-one) (drop-cons s i 0 more)

  -- no algorithm has that byte
  pub unknown_here : numbered (get_or s i 0) ≡ None → Reads s i None
  unknown_here e = ap first_of start ∙ first_unknown (get_or s i 0) (drop (i + 1) s) e

  -- the algorithm is known, with digests of n bytes
  module _ (a : Algorithm) (known : numbered (get_or s i 0) ≡ Some a) (n : ℕ) (size : n ≡ digest_bytes a) where
    -- If fewer bytes are left than a digest has, no entry stands there.
    pub cut_here : length s - (i + 1) < n → Reads s i None
    cut_here h = ap first_of start ∙ first_cut a (get_or s i 0) (drop (i + 1) s) known (omega (arith, size, length-drop (i + 1) s))

    -- If a digest fits into the bytes that are left, an entry stands there, with the digest after the first byte.
    pub whole_here : n ≤ length s - (i + 1) → EntryAt s i a (i + 1) (i + 1 + n)
    whole_here h =
        record {
          digest = refl;
          end = ap (λ (k : ℕ). i + 1 + k) size;
          within = omega arith;
          reads =
              ap first_of start ∙ first_whole a (get_or s i 0) (drop (i + 1) s) known (omega (arith, size, length-drop (i + 1) s))
              ∙ ap (entry (record { algorithm = a; bytes = take (digest_bytes a) (drop (i + 1) s) }))
              (ap (λ (k : ℕ). drop k (drop (i + 1) s)) (sym size) ∙ drop-drop n (i + 1) s);
        }
