-- The loops of the writer begin once the opening mark is written: what was there before it does not matter.
use Prim.Native.Nat.{ℕ, suc, ◌+◌, ◌<◌}
use mathlib.Core.Path.{◌≡◌, refl, sym, ap, subst, ◌∙◌}
use mathlib.Core.List.{List, [], ◌∷◌, ◌++◌}
use native.Mathlib.Omega.{arith}
use native.Mathlib.Numerals.{add-one}
use lib.ListN.{length, drop, set, length-set, length-append}
use Rattle.text_content.specs.Value.{Value}
use Rattle.text_content.specs.Canonical.{canonical}
use Rattle.text_view.specs.Place.{ValueAt}
use Rattle.text_view.proofs.ByKind.{one_value}
use Rattle.laws.proofs.Writing.{same_length, byte_written}
use Rattle.laws.specs.Writes.{Writes}
use Rattle.text_canonical.specs.Space.{WriteSpace, Written}

-- A slice that is not empty, once its first byte is `b`, counts as one in which the byte `b` is written.
pub mark_written : (l : List ℕ) (b : ℕ) → 0 < length l → Writes (set l 0 b) (set l 0 b) (b ∷ [])
mark_written [] b h = absurd (omega arith)
mark_written (x ∷ l) b h = record { fits = omega arith; all = refl }

past_mark : (l : List ℕ) (b n : ℕ) → drop (suc n) (set l 0 b) ≡ drop (suc n) l
past_mark [] b n = refl
past_mark (x ∷ l) b n = refl

-- At least one byte written over a slice whose first byte was set is written over the slice as it was before that.
pub from_mark : (l : List ℕ) (b n : ℕ) {after bytes : List ℕ} → Written (set l 0 b) after (n + 1) bytes → Written l after (n + 1) bytes
from_mark l b n {after} {bytes} w =
    let size : suc n ≡ length bytes = sym (add-one n) ∙ w.0 in (
      w.0,
      record {
        fits = omega (arith, w.1.fits, length-set l 0 b);
        all = w.1.all ∙ ap (λ (k : ℕ). bytes ++ drop k (set l 0 b)) (sym size) ∙ ap (λ (m : List ℕ). bytes ++ m) (past_mark l b n)
            ∙ ap (λ (k : ℕ). bytes ++ drop k l) size;
      },
    )

-- space goes by lengths alone
pub space_again : {s : List ℕ} {at depth : ℕ} {v : Value} {out keys spare : List ℕ} (out' keys' spare' : List ℕ) → length out' ≡ length out
    → length keys' ≡ length keys → length spare' ≡ length spare → WriteSpace s at depth v out keys spare → WriteSpace s at depth v out' keys' spare'
space_again out' keys' spare' e f g r =
    record {
      here = r.here;
      short = r.short;
      form = omega (arith, r.form);
      enough = omega (arith, r.enough);
      sorting = omega (arith, r.sorting);
    }

-- Space for the writing of a value is space for the writing of an equal value.
pub space_of : {s : List ℕ} {at depth : ℕ} {v w : Value} {out keys spare : List ℕ} → v ≡ w → WriteSpace s at depth v out keys spare
    → WriteSpace s at depth w out keys spare
space_of {s} {at} {depth} {out = out} {keys = keys} {spare = spare} e r = subst (λ (x : Value). WriteSpace s at depth x out keys spare) e r

-- The end mark of a value of which all else is written, and which fits: there is space for the mark, and with it the canonical form is written.
module _ {s : List ℕ} {at depth : ℕ} {w : Value} {before keys spare out : List ℕ} (space : WriteSpace s at depth w before keys spare) {n : ℕ}
    {done : List ℕ} (size : n ≡ length done) (written : Writes before out done) (mark : ℕ) (ended : done ++ (mark ∷ []) ≡ canonical w) where
  last_fits : n < length before
  last_fits = omega (arith, size, ap length ended, length-append done (mark ∷ []), space.form)

  -- There is space for the end mark.
  pub end_fits : n < length out
  end_fits = omega (arith, last_fits, same_length written)

  -- With the end mark, the canonical form of the value at position `at` is written.
  pub finished : (v : Value) → ValueAt s at depth v → Written before (set out n mark) (n + 1) (canonical v)
  finished v h =
      let same : w ≡ v = one_value s at depth w v space.here h in
      let form : canonical v ≡ done ++ (mark ∷ []) = ap canonical (sym same) ∙ sym ended in
      rw form (omega (arith, size, length-append done (mark ∷ [])), byte_written written n mark size last_fits)
