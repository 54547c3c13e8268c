-- How far an array is written.
use Prim.Native.Nat.{ℕ, ◌+◌, ◌-◌, ◌<◌, ◌≤◌}
use mathlib.Core.Path.{◌≡◌, refl, sym, ap, ◌∙◌}
use mathlib.Core.List.{List, [], ◌∷◌, ◌++◌, append_assoc}
use mathlib.Core.Bool.{Bool, true, false}
use native.Mathlib.Omega.{arith}
use lib.ListN.{length, set, length-append, length-set}
use borrow.Rule.Slice.PartMut.{mid_of, put_mid}
use Rattle.text_json.specs.Syntax.{Syntax, elements}
use Rattle.text_content.specs.Value.{Value, Values, array, content, contents}
use Rattle.text_content.specs.Canonical.{sorted_values, comma, write_values, canonical}
use Rattle.laws.specs.Writes.{Writes}
use Rattle.laws.proofs.Writing.{same_length, lent_length, part_written}
use Rattle.text_view.specs.Place.{ValueAt, kind_of}
use Rattle.text_view.specs.Listed.{ListAt, SomeList, GivesItem}
use Rattle.text_view.specs.declared.value.Item.TheVariants.{At, End}
use Rattle.text_view.proofs.Values.{Opened, opened_kind}
use Rattle.text_canonical.specs.Space.{WriteSpace, Writable, WritableArray, Written}
use Rattle.text_canonical.proofs.Forms.{array_form, no_values_form, value_form}
use Rattle.text_canonical.proofs.Marks
use Rattle.text_canonical.proofs.Marks.{mark_written, space_again}

-- Of the canonical form of the array at position `at`, n bytes are written, and its other elements stand from position i on;
-- `start` says whether all of them do.
pub record ArrayWritten (s : List ℕ) (at depth : ℕ) (before keys spare out : List ℕ) (n : ℕ) (start : Bool) (i : ℕ) : Type 0 where
  pub all : Values
  pub space : WriteSpace s at depth (array all) before keys spare
  pub some : 0 < depth
  pub trees : List Syntax
  pub rest : List ℕ
  pub left : ListAt s i (depth - 1) false trees rest
  pub done : List ℕ
  pub size : n ≡ length done
  pub written : Writes before out done
  pub joins : done ++ (write_values start (sorted_values (contents (elements trees))) ++ (0x5D ∷ [])) ≡ canonical (array all)

array_opened : (s : List ℕ) (at depth : ℕ) (vs : Values) (v : ValueAt s at depth (array vs)) → Opened s at depth false v.tree v.rest
unfolding kind_of
array_opened s at depth vs v = opened_kind s at depth v.tree v.rest v.derives false (ap kind_of v.means)

opened_values : (s : List ℕ) (at depth : ℕ) (vs : Values) (v : ValueAt s at depth (array vs)) → contents (elements (array_opened s at depth vs v).trees) ≡ vs
unfolding content
opened_values s at depth vs v =
    let o = array_opened s at depth vs v in
    let e : array (contents (elements o.trees)) ≡ array vs = ap content (sym o.tree) ∙ v.means in
    cc

module _ {s : List ℕ} {at depth : ℕ} {out keys spare : List ℕ} (p : WritableArray s at depth out keys spare) where
  -- Where an array may be written, the output has at least one byte.
  pub mark_fits : 0 < length out
  mark_fits = omega (arith, ap length (array_form p.values), p.space.form)

  -- With the opening bracket put in the output, one byte of the form is written, and all elements stand from the position after `at` on.
  pub started : ArrayWritten s at depth (set out 0 0x5B) keys spare (set out 0 0x5B) 1 true (at + 1)
  started =
      let v = p.space.here in
      let o = array_opened s at depth p.values v in
      let e = opened_values s at depth p.values v in
      record {
        all = p.values;
        space = space_again (set out 0 0x5B) keys spare (length-set out 0 0x5B) refl refl p.space;
        some = o.some;
        trees = o.trees;
        rest = v.rest;
        left = o.items;
        done = 0x5B ∷ [];
        size = refl;
        written = mark_written out 0x5B mark_fits;
        joins = rw (e, array_form p.values) refl;
      }

-- the next element v stands at position q, and the others from position `next` on
record Next {s : List ℕ} {at depth : ℕ} {before keys spare out : List ℕ} {n : ℕ} {start : Bool} {i : ℕ}
    (p : ArrayWritten s at depth before keys spare out n start i) (q next : ℕ) : Type 0 where
  value : Value
  others : List Syntax
  here : ValueAt s q (depth - 1) value
  left : ListAt s next (depth - 1) false others p.rest
  later : (i < next) × (next ≤ length s)
  joins : p.done ++ (comma start ++ (canonical value ++ (write_values false (sorted_values (contents (elements others))) ++ (0x5D ∷ []))))
      ≡ canonical (array p.all)

module _ {s : List ℕ} {at depth : ℕ} {before keys spare out : List ℕ} {n : ℕ} {start : Bool} {i : ℕ}
    (p : ArrayWritten s at depth before keys spare out n start i) where
  -- From position `i` on stand elements and the end mark of an array.
  pub items_left : SomeList s i (depth - 1) false
  items_left = record { trees = p.trees; rest = p.rest; here = p.left }

  module _ (q v next : ℕ) (g : GivesItem s i (depth - 1) false p.trees p.rest (At q v next)) where
    taken : Next p v next
    unfolding elements contents
    taken = go p.trees p.joins g
      where
        go : (ts : List Syntax) → p.done ++ (write_values start (sorted_values (contents (elements ts))) ++ (0x5D ∷ [])) ≡ canonical (array p.all)
            → GivesItem s i (depth - 1) false ts p.rest (At q v next) → Next p v next
        go [] j f = absurd f
        go (t ∷ ts) j f =
            let x = content t in
            let xs = contents (elements ts) in
            let tail = write_values false (sorted_values xs) in
            record {
              value = x;
              others = ts;
              here = record { tree = t; rest = f.after; derives = f.value; stops = f.stops; means = refl };
              left = f.others;
              later = (f.later, f.within);
              joins = ap (λ (l : List ℕ). p.done ++ l)
                  (sym (ap (λ (l : List ℕ). l ++ (0x5D ∷ [])) (value_form start x xs) ∙ append_assoc (comma start) (canonical x ++ tail) (0x5D ∷ [])
                  ∙ ap (λ (l : List ℕ). comma start ++ l) (append_assoc (canonical x) tail (0x5D ∷ [])))) ∙ j;
            }

    total : n + length (comma start) + length (canonical taken.value) < length (canonical (array p.all))
    total =
        let k = taken in
        let tail = write_values false (sorted_values (contents (elements k.others))) in
        omega (
          arith,
          p.size,
          ap length k.joins,
          length-append p.done (comma start ++ (canonical k.value ++ (tail ++ (0x5D ∷ [])))),
          length-append (comma start) (canonical k.value ++ (tail ++ (0x5D ∷ []))),
          length-append (canonical k.value) (tail ++ (0x5D ∷ [])),
          length-append tail (0x5D ∷ []),
        )

    -- The position from which the other elements stand is after `i` and within the text.
    pub later : (i < next) × (next ≤ length s)
    later = taken.later

    -- Before another element there is space for the comma, where it takes one.
    pub comma_fits : n + length (comma start) ≤ length out
    comma_fits = omega (arith, total, p.space.form, same_length p.written)

    -- once the comma is written
    module _ (m : ℕ) (mid : List ℕ) (f : m ≡ n + length (comma start)) (w : Writes before mid (p.done ++ comma start)) where
      size : m ≡ length (p.done ++ comma start)
      size = omega (arith, p.size, length-append p.done (comma start))

      -- What is written up to the element is no longer than the output.
      pub part_fits : m ≤ length mid
      part_fits = omega (arith, total, p.space.form, same_length w)

      -- The element may be written into the rest of the output, with arrays of keys that are as long as the given ones.
      pub element : (ks ss : List ℕ) → length ks ≡ length keys → length ss ≡ length spare
          → Writable s v (depth - 1) (mid_of m (length mid - m) mid) ks ss
      element ks ss a b =
          let r = p.space in
          record {
            value = taken.value;
            space = record {
              here = taken.here;
              short = r.short;
              form = omega (arith, total, r.form, lent_length w m size);
              enough = omega (arith, total, r.enough);
              sorting = omega (arith, r.sorting);
            };
          }

      module _ (r : ℕ) (part : List ℕ) (h : (x : Value) → ValueAt s v (depth - 1) x → Written (mid_of m (length mid - m) mid) part r (canonical x)) where
        here : Written (mid_of m (length mid - m) mid) part r (canonical taken.value)
        here = h taken.value taken.here

        -- What is written up to the element's end is shorter than the output.
        pub next_fits : m + r < length before
        next_fits = omega (arith, total, p.space.form, here.0)

        -- Once the element is written too, its bytes count as written, and the other elements stand from position `next` on.
        pub advanced : ArrayWritten s at depth before keys spare (put_mid m (length mid - m) mid part) (m + r) false next
        advanced =
            let k = taken in
            let d = p.done ++ comma start in
            record {
              all = p.all;
              space = p.space;
              some = p.some;
              trees = k.others;
              rest = p.rest;
              left = k.left;
              done = d ++ canonical k.value;
              size = omega (arith, size, here.0, length-append d (canonical k.value));
              written = part_written w m part (canonical k.value) size here.1;
              joins = append_assoc d (canonical k.value) _ ∙ append_assoc p.done (comma start) _ ∙ k.joins;
            }

  -- the end mark
  module _ (e : ℕ) (g : GivesItem s i (depth - 1) false p.trees p.rest (End e)) where
    ended : p.done ++ (0x5D ∷ []) ≡ canonical (array p.all)
    unfolding elements contents
    ended = go p.trees p.joins g
      where
        go : (ts : List Syntax) → p.done ++ (write_values start (sorted_values (contents (elements ts))) ++ (0x5D ∷ [])) ≡ canonical (array p.all)
            → GivesItem s i (depth - 1) false ts p.rest (End e) → p.done ++ (0x5D ∷ []) ≡ canonical (array p.all)
        go [] j f = rw (no_values_form start) at j
        go (t ∷ ts) j f = absurd f

    -- Where no element is left, there is space for the closing bracket.
    pub end_fits : n < length out
    end_fits = Marks.end_fits p.space p.size p.written 0x5D ended

    -- With the closing bracket, the canonical form of the value at position `at` is written.
    pub finished : (v : Value) → ValueAt s at depth v → Written before (set out n 0x5D) (n + 1) (canonical v)
    finished = Marks.finished p.space p.size p.written 0x5D ended
