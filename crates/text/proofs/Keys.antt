-- The keys that the checking of a text leaves, and what the writing of its form asks of them.
use Rattle.std.specs.Prelude.{Result, Err, Ok}
use Prim.Native.Nat.{ℕ}
use mathlib.Core.Path.{◌≡◌, refl, sym, ap, subst, ◌∙◌}
use mathlib.Core.List.{List, [], ◌∷◌}
use mathlib.Core.Bool.{Bool}
use native.Mathlib.Omega.{arith}
use lib.ListN.{drop}
use Rattle.text_json.specs.Syntax.{Syntax, object as tree, members}
use Rattle.text_json.specs.Read.{found, and_then, spaces, read, at_end, read_text}
use Rattle.text_json.specs.Scan.{At}
use Rattle.text_json.proofs.Grammar.Complete.{read_complete}
use Rattle.text_content.specs.Value.{Fields, object}
use Rattle.text_scan.specs.Scanned.{KeysOf}
use Rattle.text_tokens.specs.Summary.{own_key_count}
use Rattle.text_tokens.specs.declared.ScannedValue.{ScannedValue}
use Rattle.text_scan.proofs.Results.{IsValue}
use Rattle.text_view.specs.Place.{ValueAt}
use Rattle.text_canonical.specs.Members.{Sorted}
use Rattle.text_canonical.proofs.Collect.{object_opened}
use Rattle.text_canonical.proofs.Given.{given}
use Rattle.text.specs.Keys.{RootKeys, refused_text, with_count}
use Rattle.text.specs.declared.Fault.{Fault}
use Rattle.text.specs.declared.CheckedWithKeys.{CheckedWithKeys}
use Rattle.text.specs.Accepted.{accepted_text}
use Rattle.text.specs.declared.Accepted.{Accepted}

-- What is known of a text that is refused has the refusal as its answer, and leaves no keys.
pub refused_keys : (s keys : List ℕ) (x : Result Accepted Fault) (r : CheckedWithKeys) (f : Fault) → r ≡ refused_text f → Err f ≡ x
    → (r.answer ≡ x) × RootKeys s r.answer r.count keys
refused_keys s keys x r f e q = subst (λ (y : CheckedWithKeys). (y.answer ≡ x) × RootKeys s y.answer y.count keys) (sym e) (q, refl)

-- the count is kept where the text is taken
pub taken_count : (x : Result Accepted Fault) (n m : ℕ) (c : Bool) → x ≡ accepted_text m c → ◌≡◌ {A = CheckedWithKeys} (record { answer = x; count = n }) (with_count x n)
taken_count x n m c e = rw e

-- For a text that is refused, whatever the count of keys, what is known is the refusal without keys.
pub refused_count : (x : Result Accepted Fault) (n : ℕ) (f : Fault) (r : CheckedWithKeys) → x ≡ Err f → r ≡ refused_text f → r ≡ with_count x n
refused_count x n f r e q = q ∙ sym (ap (λ (y : Result Accepted Fault). with_count y n) e)

-- how many keys a text's value has itself, as the scan counts them
pub own_keys : (s : List ℕ) (f : ScannedValue) (p : IsValue s (read_text 8 s) f) (t : Syntax) (q : List ℕ) → read_text 8 s ≡ found t q → f.count ≡ own_key_count t
own_keys s f p t q e =
    let r = p.reads in
    let h : p.tree ≡ t = cc in
    p.count ∙ ap own_key_count h

-- the keys of a text that was read, whatever its faults are
pub root_keys : (s keys : List ℕ) (x : Result Accepted Fault) (n : ℕ) (r : CheckedWithKeys) → r ≡ with_count x n → ((t : Syntax) (q : List ℕ)
    → read_text 8 s ≡ found t q → n ≡ own_key_count t)
    → KeysOf s (read_text 8 s) n keys → (r.answer ≡ x) × RootKeys s r.answer r.count keys
root_keys s keys (Ok a) n r e h k = subst (λ (y : CheckedWithKeys). (y.answer ≡ Ok a)
    × RootKeys s y.answer y.count keys) (sym e) (refl, (h, k))
root_keys s keys (Err f) n r e h k = refused_keys s keys (Err f) r f e refl

-- the keys of the object that is a text's value, at its position
pub root_sorted : (s : List ℕ) (at n : ℕ) (keys : List ℕ) (t : Syntax) → At s at (spaces s) → read_text 8 s ≡ found t [] → KeysOf s (read_text 8 s) n keys
    → (fs : Fields) → ValueAt s at 8 (object fs) → Sorted s at 8 n keys
unfolding read_text and_then at_end
root_sorted s at n keys t p e h fs v =
    let o = object_opened s at 8 fs v in
    let f : read 8 (drop at s) ≡ found (tree (members o.trees)) v.rest
    = read_complete 8 (drop at s) v.tree v.rest v.derives v.stops ∙ ap (λ (u : Syntax). found u v.rest) o.tree in
    let g : read_text 8 s ≡ at_end (tree (members o.trees)) (spaces v.rest) = rw (p.1, f) in
    let k = h o.trees [] (g ∙ whole (tree (members o.trees)) (spaces v.rest) (sym g ∙ e)) in
    given s at 8 n o.trees v.rest k.places keys f k.here k.within k.sorted
  where
    whole : (u : Syntax) (q : List ℕ) → at_end u q ≡ found t [] → at_end u q ≡ found u []
    whole u [] z = refl
    whole u (b ∷ q) z = let y : ◌≡◌ {A = ℕ} 0 1 = cc in absurd (omega arith)
