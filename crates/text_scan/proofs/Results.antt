-- What is common to reading the elements of an array and the members of an object.
use Rattle.std.specs.Prelude.{Ok, Err}
use Prim.Native.Nat.{ℕ, zero, suc, ◌+◌, ◌<◌, ◌≤◌}
use mathlib.Core.Path.{◌≡◌, refl, ap, ◌∙◌}
use mathlib.Core.List.{List, [], ◌∷◌, ◌++◌}
use native.Mathlib.Omega.{arith}
use native.Mathlib.Nat.{add-zero}
use borrow.Author.Tests.{eq-eqb, ne_eqb}
use lib.ListN.{length, drop, get_or, length-drop}
use Rattle.text_json.specs.Syntax.{Syntax}
use Rattle.text_json.specs.Read.{Read, found, stuck, and_then, prepend, spaces, after_item, read_first, read_listed, read_items, read, read_nested, read_scalar}
use Rattle.text_json.specs.Scan.{At}
use Rattle.text_json.proofs.Items.{items_from, prepend_all, items_from_is}
use Rattle.text_json.proofs.Grammar.Sound.{read_sound, read_shorter}
use Rattle.text_content.specs.Value.{content}
use Rattle.text_content.specs.Canonical.{canonical}
use Rattle.text_content.proofs.NotLonger.{value_not_longer}
use Rattle.text_tokens.specs.Summary.{summary, own_key_count}
use Rattle.text_tokens.specs.Scanned.{ScansValue, Follows}
use Rattle.text_tokens.specs.declared.ScannedValue.{ScannedValue}
use Rattle.text_strings.proofs.Views.{byte_at, below_at}
use Rattle.text_tokens.specs.declared.After.{After}
use Rattle.text_tokens.proofs.Follow.{after_end, after_more, after_stuck}
use Rattle.text_tokens.proofs.Tokens.{here}

-- what a scan says, as an equation
pub record IsValue (s : List ℕ) (x : Read Syntax) (f : ScannedValue) : Type 0 where
  pub tree : Syntax
  pub reads : x ≡ found tree (drop f.end s)
  pub sum : f.sum ≡ summary tree
  pub count : f.count ≡ own_key_count tree
  pub within : f.end ≤ length s

-- If the scan answers with a value, a value is read, and the answer tells its end, its summary and the number of its own keys.
pub scans_value : (s : List ℕ) (x : Read Syntax) (f : ScannedValue) → ScansValue s x (Ok f) → IsValue s x f
scans_value s (found t r) f p = record { tree = t; reads = ap (found t) p.0.1; sum = p.1; count = p.2; within = p.0.0 }
scans_value s (stuck r) f p = absurd p

-- If the scan answers that it is stuck, reading is stuck at the position that is told, within the text.
pub scans_stuck : (s : List ℕ) (x : Read Syntax) (e : ℕ) → ScansValue s x (Err e) → (e ≤ length s) × (x ≡ stuck (drop e s))
scans_stuck s (found t r) e p = absurd p
scans_stuck s (stuck r) e p = (p.0, ap stuck p.1)

-- a value has a byte, and its canonical form is no longer than it is
pub value_later : (s : List ℕ) (d i : ℕ) (f : ScannedValue) → i ≤ length s → IsValue s (read d (drop i s)) f → i < f.end
value_later s d i f w p =
    let w₂ = p.within in
    let l = read_shorter d (drop i s) p.tree (drop f.end s) p.reads in
    omega (arith, simp length-drop at l)

-- The canonical form of a value is no longer than the value in the text.
pub value_size : (s : List ℕ) (d i : ℕ) (f : ScannedValue) → i ≤ length s → IsValue s (read d (drop i s)) f → f.sum.size + i ≤ f.end
unfolding summary
value_size s d i f w p =
    let w₂ = p.within in
    let e : f.sum.size ≡ length (canonical (content p.tree)) = ap (λ (x : _). x.size) p.sum in
    let l = value_not_longer d (drop i s) p.tree (drop f.end s) (read_sound d (drop i s) p.tree (drop f.end s) p.reads) in
    omega (arith, simp length-drop at l)

-- items that were read before
pub prepend_all_snoc : {A : Type 0} (ts : List A) (t : A) (x : Read (List A)) → prepend_all ts (prepend t x) ≡ prepend_all (ts ++ (t ∷ [])) x
unfolding prepend_all
prepend_all_snoc [] t x = refl
prepend_all_snoc (u ∷ ts) t x = ap (prepend u) (prepend_all_snoc ts t x)

-- Where reading is stuck, it is stuck at the same place with any items before.
pub prepend_all_stuck : {A : Type 0} (ts : List A) (r : List ℕ) → prepend_all ts (stuck r) ≡ stuck r
unfolding prepend_all prepend
prepend_all_stuck [] r = refl
prepend_all_stuck (u ∷ ts) r = ap (prepend u) (prepend_all_stuck ts r)

-- Items put before items that are found are found in front of them, with the same rest.
pub prepend_all_found : {A : Type 0} (ts us : List A) (r : List ℕ) → prepend_all ts (found us r) ≡ found (ts ++ us) r
unfolding prepend_all prepend
prepend_all_found [] us r = refl
prepend_all_found (t ∷ ts) us r = ap (prepend t) (prepend_all_found ts us r)

-- the first byte after the opening mark and spaces: the end mark, or items
module _ {A : Type 0} (item : List ℕ → Read A) (mark : ℕ) (s : List ℕ) (at i : ℕ) (p : At s i (spaces (drop at s))) where
  -- If the end mark stands after the first spaces, no items are found, and the rest begins after the mark.
  pub listed_empty : i < length s → get_or s i 0 ≡ mark → read_listed item mark (drop at s) ≡ found [] (drop (i + 1) s)
  unfolding read_listed read_first
  listed_empty w e = rw (p.1, here s i w) (rw (eq-eqb (get_or s i 0) mark e, read_first))

  -- If no end mark stands after the first spaces, the items are read from there on.
  pub listed_items : (i < length s → get_or s i 0 ≡ mark → ⊥) → read_listed item mark (drop at s) ≡ items_from item mark (drop i s)
  unfolding read_listed read_first items_from read_items
  listed_items n = go (drop i s) refl
    where
      go : (l : List ℕ) → drop i s ≡ l → read_first item mark (spaces (drop at s)) ≡ items_from item mark (drop i s)
      go [] e = rw (p.1, e)
      go (b ∷ l) e =
          rw (p.1, e) (rw (
            ne_eqb b mark (λ f. n (rw add-zero at (below_at s i (b ∷ l) e 0 (omega arith))) (rw add-zero at (byte_at s i (b ∷ l) e 0) ∙ f)),
            read_first,
          ))

-- Where nothing is left of the text, reading a value is stuck.
pub read_nothing : (d : ℕ) → read d [] ≡ stuck []
unfolding read read_nested read_scalar
read_nothing zero = refl
read_nothing (suc d) = refl

-- one more item, after those that are done
module _ {A : Type 0} (item : List ℕ → Read A) (mark : ℕ) (shorter : (s : List ℕ) (t : A) (r : List ℕ) → item s ≡ found t r → length r < length s)
    (empty : item [] ≡ stuck []) (s : List ℕ) (i : ℕ) (done : List A) (x : Read (List A)) (reads : x ≡ prepend_all done (items_from item mark (drop i s))) where
  -- If reading the next item is stuck, reading all of them is stuck at the same place.
  pub item_stuck : (e : ℕ) → item (drop i s) ≡ stuck (drop e s) → x ≡ stuck (drop e s)
  unfolding and_then
  item_stuck e q =
      reads ∙ ap (prepend_all done) (items_from_is item mark shorter empty (drop i s)
      ∙ ap (λ (y : Read A). and_then y (λ t r. after_item (items_from item mark) mark t (spaces r))) q) ∙ prepend_all_stuck done (drop e s)

  module _ (t : A) (k : ℕ) (q : item (drop i s) ≡ found t (drop k s)) where
    by_next : x ≡ prepend_all done (after_item (items_from item mark) mark t (spaces (drop k s)))
    unfolding and_then
    by_next =
        reads ∙ ap (prepend_all done) (items_from_is item mark shorter empty (drop i s)
        ∙ ap (λ (y : Read A). and_then y (λ u r. after_item (items_from item mark) mark u (spaces r))) q)

    -- If the end mark follows the next item, the items done and this one are found, and the rest begins after the mark.
    pub item_ends : (e : ℕ) → Follows s k mark (Ok (After.End e)) → x ≡ found (done ++ (t ∷ [])) (drop e s)
    item_ends e w = by_next ∙ ap (prepend_all done) (after_end (items_from item mark) t s k mark e w) ∙ prepend_all_found done (t ∷ []) (drop e s)

    -- If neither a comma nor the end mark follows the next item, reading all of them is stuck there.
    pub item_sticks : (e : ℕ) → Follows s k mark (Err e) → x ≡ stuck (drop e s)
    item_sticks e w = by_next ∙ ap (prepend_all done) (after_stuck (items_from item mark) t s k mark e w) ∙ prepend_all_stuck done (drop e s)

    -- If a comma follows the next item, reading goes on at the item after it with this one done.
    pub item_more : (j : ℕ) → Follows s k mark (Ok (After.More j)) → x ≡ prepend_all (done ++ (t ∷ [])) (items_from item mark (drop j s))
    item_more j w = by_next ∙ ap (prepend_all done) (after_more (items_from item mark) t s k mark j w) ∙ prepend_all_snoc done t (items_from item mark (drop j s))
