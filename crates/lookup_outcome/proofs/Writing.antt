-- The entries of digests, written one after the other. Assumes nothing.
use Prim.Native.Nat.{ℕ, suc, ◌+◌, ◌-◌, ◌<◌, ◌≤◌}
use mathlib.Core.Path.{◌≡◌, refl, sym, ap, subst, ◌∙◌}
use mathlib.Core.List.{List, [], ◌∷◌, ◌++◌, append-nil}
use native.Mathlib.Omega.{arith}
use native.Mathlib.Numerals.{add-one}
use borrow.Rule.Slice.PartMut.{mid_of, put_mid}
use lib.ListN.{length, take, drop, get_or, length-append}
use lib.Seq.{take-suc, take_all, split_at}
use Rattle.reference.specs.References.{Layer}
use Rattle.reference_digests.specs.declared.algorithm.Algorithm.TheVariants.{Sha224}
use Rattle.manifest_objects.specs.Objects.{AllStand}
use Rattle.manifest_objects.proofs.Standing.{stand_length, stand_same}
use Rattle.laws.specs.Writes.{Writes}
use Rattle.laws.proofs.Writing.{nothing_written, lent_length, part_written}
use Rattle.lookup_layers.specs.Layers.{LayerDigest, entry_of, list_of}
use Rattle.lookup_layers.proofs.Listing.{list_both}
use Rattle.lookup_outcome.specs.Resolving.{DigestStands, AllMet, EntryFits, Writable}
use Rattle.lookup_outcome.proofs.Meeting.{digest_stands, met_length, met_at, met_same}

-- no digest
abbrev no_digest : LayerDigest
no_digest = record { algorithm = Sha224; bytes = [] }

-- the list of the first k digests is written, and n is how many bytes it has
pub record WrittenTo (ds : List LayerDigest) (k n : ℕ) (before out : List ℕ) : Type 0 where
  pub size : n ≡ length (list_of (take k ds))
  pub bytes : Writes before out (list_of (take k ds))

-- At first none is written.
pub written_none : (ds : List LayerDigest) (before : List ℕ) → WrittenTo ds 0 0 before before
unfolding list_of
written_none ds before = record { size = refl; bytes = nothing_written before }

module _ (ds : List LayerDigest) (k : ℕ) (h : k < length ds) where
  next_list : list_of (take (k + 1) ds) ≡ list_of (take k ds) ++ entry_of (get_or ds k no_digest)
  unfolding list_of
  next_list =
      ap list_of (ap (λ (j : ℕ). take j ds) (add-one k) ∙ take-suc ds k no_digest h)
      ∙ list_both (take k ds) (get_or ds k no_digest ∷ [])
      ∙ ap (λ (w : List ℕ). list_of (take k ds) ++ w) (append-nil (entry_of (get_or ds k no_digest)))

  whole_list : length (list_of ds) ≡ length (list_of (take k ds)) + (length (entry_of (get_or ds k no_digest)) + length (list_of (drop (suc k) ds)))
  unfolding list_of
  whole_list =
      ap (λ (l : List LayerDigest). length (list_of l)) (split_at ds k no_digest h)
      ∙ ap length (list_both (take k ds) (get_or ds k no_digest ∷ drop (suc k) ds))
      ∙ length-append (list_of (take k ds)) (entry_of (get_or ds k no_digest) ++ list_of (drop (suc k) ds))
      ∙ ap (λ (m : ℕ). length (list_of (take k ds)) + m) (length-append (entry_of (get_or ds k no_digest)) (list_of (drop (suc k) ds)))

module _ {b keys numbers : List ℕ} {size : ℕ} (w : Writable b keys numbers size) (k : ℕ) (h : k < length numbers) where
  -- the digest with number k
  abbrev pub digest_at : LayerDigest
  digest_at = get_or w.digests k no_digest

  within : k < length w.digests
  within = omega (arith, met_length w.met)

  -- Its number is that of a reference.
  pub number_within : get_or numbers k 0 < length keys
  number_within = omega (arith, (met_at w.met k no_digest h).within, stand_length w.stand)

  -- It stands at the position with its number.
  pub digest_here : DigestStands b (get_or keys (get_or numbers k 0) 0) digest_at
  digest_here = digest_stands w.stand (get_or numbers k 0) digest_at (met_at w.met k no_digest h)

  module _ {n : ℕ} {before out : List ℕ} (fits : size ≡ length before) (p : WrittenTo w.digests k n before out) where
    -- There is room for its entry.
    pub entry_space : n + length (entry_of digest_at) ≤ length before
    entry_space = omega (arith, w.space, p.size, whole_list w.digests k within)

    -- The part past what is written has that room.
    pub entry_lent : length (mid_of n (length out - n) out) + n ≡ length before
    entry_lent = lent_length p.bytes n p.size

    -- An entry can be written there.
    pub entry_fits : EntryFits b (get_or keys (get_or numbers k 0) 0) (length (mid_of n (length out - n) out))
    entry_fits = record { digest = digest_at; stands = digest_here; space = omega (arith, entry_space, entry_lent) }

    -- One more entry is written.
    pub written_next : (m : ℕ) (part : List ℕ) → m ≡ length (entry_of digest_at) → part ≡ entry_of digest_at ++ drop m (mid_of n (length out - n) out)
        → WrittenTo w.digests (k + 1) (n + m) before (put_mid n (length out - n) out part)
    written_next m part e q =
        record {
          size = omega (arith, p.size, ap length (next_list w.digests k within), length-append (list_of (take k w.digests)) (entry_of digest_at));
          bytes = subst (Writes before (put_mid n (length out - n) out part)) (sym (next_list w.digests k within))
              (part_written p.bytes n part (entry_of digest_at) p.size
              (record {
                fits = omega (arith, entry_space, entry_lent);
                all = q ∙ ap (λ (j : ℕ). entry_of digest_at ++ drop j (mid_of n (length out - n) out)) e;
              }));
        }

-- Where none is left the list of the digests is written, whatever the references are.
pub written_all : {b keys numbers : List ℕ} {size : ℕ} (w : Writable b keys numbers size) (k n : ℕ) (before out : List ℕ) → length numbers ≤ k
    → WrittenTo w.digests k n before out → (refs : List Layer) (ds : List LayerDigest) → AllStand b keys refs → AllMet refs numbers ds
    → out ≡ list_of ds ++ drop (length (list_of ds)) before
written_all {numbers = numbers} w k n before out h p refs ds s m =
    let q : w.digests ≡ ds = met_same (subst (λ (l : List Layer). AllMet l numbers w.digests) (stand_same w.stand s) w.met) m in
    p.bytes.all
    ∙ ap (λ (l : List LayerDigest). list_of l ++ drop (length (list_of l)) before) (take_all k w.digests (omega (arith, met_length w.met)) ∙ q)
