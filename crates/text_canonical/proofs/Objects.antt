-- How far an object is written.
use Prim.Native.Nat.{ℕ, ◌+◌, ◌-◌, ◌*◌, ◌<◌, ◌≤◌}
use mathlib.Core.Path.{◌≡◌, refl, sym, ap, ◌∙◌}
use mathlib.Core.List.{List, [], ◌∷◌, ◌++◌, append_assoc}
use mathlib.Core.Bool.{false}
use native.Mathlib.Omega.{arith}
use native.Mathlib.Numerals.{add-one}
use lib.Dec.{eqb}
use lib.ListN.{length, take, drop, get_or, set, length-append, length-drop, length-set, drop_of_length-le}
use lib.Seq.{drop-cons, get_or-take, length-take-le}
use borrow.Rule.Slice.PartMut.{mid_of, put_mid, mid_len, take_put, same_len_mid}
use borrow.Author.Tests.{ne_eqb, eqb-true}
use Rattle.laws.proofs.Order.{by_test}
use Rattle.text_content.specs.Value.{Value, Fields, object}
use Rattle.text_content.specs.Canonical.{sorted_fields, comma, write_fields, canonical}
use Rattle.laws.specs.Writes.{Writes}
use Rattle.laws.proofs.Writing.{same_length, lent_length, part_written}
use Rattle.text_view.specs.Place.{ValueAt}
use Rattle.text_canonical.specs.Members.{MemberAt, MembersAt, no_members, member_at, Sorted, member_form}
use Rattle.text_canonical.specs.Space.{WriteSpace, WritableObject, WritableMembers, WritableMember, KeysFit, Written}
use Rattle.text_canonical.proofs.Forms.{object_form, no_fields_form, field_form, comma_one, member_size, count, fields_size}
use Rattle.text_canonical.proofs.Marks
use Rattle.text_canonical.proofs.Marks.{mark_written, space_again}
use Rattle.text_canonical.proofs.Members.{members_count}
use Rattle.text_canonical.proofs.Collect.{object_opened}

-- Of the canonical form of the object at position `at`, n bytes are written: its first i members, in the order of the `total` keys.
pub record ObjectWritten (s : List ℕ) (at depth : ℕ) (before keys₀ spare out keys : List ℕ) (total n i : ℕ) : Type 0 where
  pub all : Fields
  pub space : WriteSpace s at depth (object all) before keys₀ spare
  pub some : 0 < depth
  pub within : total ≤ length keys
  pub same : length keys ≡ length keys₀
  pub left : Fields
  pub members : MembersAt s (depth - 1) (drop i (take total keys)) left
  pub done : List ℕ
  pub size : n ≡ length done
  pub written : Writes before out done
  pub begun : 1 ≤ n
  pub paid : 4 * i ≤ n
  pub joins : done ++ (write_fields (eqb i 0) left ++ (0x7D ∷ [])) ≡ canonical (object all)

module _ {s : List ℕ} {at depth : ℕ} {out keys spare : List ℕ} (p : WritableObject s at depth out keys spare) where
  -- Where an object may be written, there is space to collect its keys and to sort them.
  pub keys_space : KeysFit s at depth keys × (length keys ≤ length spare)
  keys_space =
      let r = p.space in
      (record { fields = p.fields; here = r.here; short = r.short; enough = r.enough }, r.sorting)

  -- once the keys are sorted
  pub keys_given : (ks ss : List ℕ) (total : ℕ) → length ks ≡ length keys → length ss ≡ length spare → Sorted s at depth total ks
      → WritableMembers s at depth total out ks ss
  keys_given ks ss total e f h = record { fields = p.fields; space = space_again out ks ss refl e f p.space; sorted = h }

module _ {s : List ℕ} {at depth total : ℕ} {out keys spare : List ℕ} (p : WritableMembers s at depth total out keys spare) where
  -- Where the members of an object may be written, the output has at least one byte.
  pub mark_fits : 0 < length out
  mark_fits = omega (arith, ap length (object_form p.fields), p.space.form)

  -- With the opening brace put in the output, one byte of the form is written, and no member.
  pub started : ObjectWritten s at depth (set out 0 0x7B) keys spare (set out 0 0x7B) keys total 1 0
  started =
      record {
        all = p.fields;
        space = space_again (set out 0 0x7B) keys spare (length-set out 0 0x7B) refl refl p.space;
        some = (object_opened s at depth p.fields p.space.here).some;
        within = p.sorted.within;
        same = refl;
        left = sorted_fields p.fields;
        members = p.sorted.members p.fields p.space.here;
        done = 0x7B ∷ [];
        size = refl;
        written = mark_written out 0x7B mark_fits;
        begun = omega arith;
        paid = omega arith;
        joins = sym (object_form p.fields);
      }

-- the next member, and the others after it
record Next {s : List ℕ} {at depth : ℕ} {before keys₀ spare out keys : List ℕ} {total n i : ℕ}
    (p : ObjectWritten s at depth before keys₀ spare out keys total n i) : Type 0 where
  key : List ℕ
  value : Value
  others : Fields
  here : MemberAt s (get_or keys i 0) (depth - 1) key value
  left : MembersAt s (depth - 1) (drop (i + 1) (take total keys)) others
  joins : p.done ++ (comma (eqb i 0) ++ (member_form key value ++ (write_fields false others ++ (0x7D ∷ [])))) ≡ canonical (object p.all)

module _ {s : List ℕ} {at depth : ℕ} {before keys₀ spare out keys : List ℕ} {total n i : ℕ}
    (p : ObjectWritten s at depth before keys₀ spare out keys total n i) where
  module _ (t : i < total) where
    first_key : drop i (take total keys) ≡ get_or keys i 0 ∷ drop (i + 1) (take total keys)
    first_key =
        let h : i < length (take total keys) = omega (arith, length-take-le total keys p.within) in
        rw (add-one, drop-cons (take total keys) i 0 h, get_or-take total keys i 0 t)

    taken : Next p
    taken = go p.left p.joins (rw first_key at p.members)
      where
        go : (fs : Fields) → p.done ++ (write_fields (eqb i 0) fs ++ (0x7D ∷ [])) ≡ canonical (object p.all)
            → MembersAt s (depth - 1) (get_or keys i 0 ∷ drop (i + 1) (take total keys)) fs → Next p
        go fs j (member_at {k = k} {v = v} {fs = gs} m h) =
            let start = comma (eqb i 0) in
            let tail = write_fields false gs in
            record {
              key = k;
              value = v;
              others = gs;
              here = m;
              left = h;
              joins = ap (λ (l : List ℕ). p.done ++ l)
                  (sym (ap (λ (l : List ℕ). l ++ (0x7D ∷ [])) (field_form (eqb i 0) k v gs) ∙ append_assoc start (member_form k v ++ tail) (0x7D ∷ [])
                  ∙ ap (λ (l : List ℕ). start ++ l) (append_assoc (member_form k v) tail (0x7D ∷ [])))) ∙ j;
            }

    sum : n + length (comma (eqb i 0)) + length (member_form taken.key taken.value) + 4 * count taken.others < length (canonical (object p.all))
    sum =
        let k = taken in
        let start = comma (eqb i 0) in
        let form = member_form k.key k.value in
        let tail = write_fields false k.others in
        omega (
          arith,
          p.size,
          ap length k.joins,
          length-append p.done (start ++ (form ++ (tail ++ (0x7D ∷ [])))),
          length-append start (form ++ (tail ++ (0x7D ∷ []))),
          length-append form (tail ++ (0x7D ∷ [])),
          length-append tail (0x7D ∷ []),
          fields_size k.others,
        )

    others_count : i + 1 + count taken.others ≡ total
    others_count =
        omega (arith, members_count taken.left, length-drop (i + 1) (take total keys), length-take-le total keys p.within)

    -- Before another member there is space for the comma, where it takes one.
    pub comma_fits : n + length (comma (eqb i 0)) ≤ length out
    comma_fits = omega (arith, sum, p.space.form, same_length p.written)

    -- once the comma is written
    module _ (m : ℕ) (mid : List ℕ) (f : m ≡ n + length (comma (eqb i 0))) (w : Writes before mid (p.done ++ comma (eqb i 0))) where
      size : m ≡ length (p.done ++ comma (eqb i 0))
      size = omega (arith, p.size, length-append p.done (comma (eqb i 0)))

      -- What is written up to the member is no longer than the output.
      pub part_fits : m ≤ length mid
      part_fits = omega (arith, sum, p.space.form, same_length w)

      -- The next member may be written into the rest of the output, with the places past the object's own keys.
      pub member : (ss : List ℕ) → length ss ≡ length spare
          → WritableMember s (get_or keys i 0) (depth - 1) (mid_of m (length mid - m) mid) (mid_of total (length keys - total) keys) ss
      member ss b =
          let r = p.space in
          let l : length (mid_of total (length keys - total) keys) ≡ length keys - total = mid_len total (length keys) keys (omega arith) in
          record {
            key = taken.key;
            value = taken.value;
            here = taken.here;
            short = r.short;
            form = omega (arith, sum, r.form, lent_length w m size);
            enough = omega (arith, sum, others_count, p.paid, p.within, p.same, r.enough, member_size taken.key taken.value);
            sorting = omega (arith, p.same, r.sorting);
          }

      module _ (r : ℕ) (part : List ℕ)
          (h : (k : List ℕ) (x : Value) → MemberAt s (get_or keys i 0) (depth - 1) k x → Written (mid_of m (length mid - m) mid) part r (member_form k x)) where
        here : Written (mid_of m (length mid - m) mid) part r (member_form taken.key taken.value)
        here = h taken.key taken.value taken.here

        -- What is written up to the member's end is shorter than the output.
        pub next_fits : m + r < length before
        next_fits = omega (arith, sum, p.space.form, here.0)

        paid_more : 4 * (i + 1) ≤ m + r
        paid_more =
            let z = member_size taken.key taken.value in
            by_test (eqb i 0) (λ q. omega (arith, p.begun, here.0, eqb-true i 0 q)) (λ q. omega (arith, p.paid, here.0, ap length (comma_one (eqb i 0) q)))

        -- the rest of the keys was lent, and comes back as ks
        pub advanced : (ks : List ℕ) → length ks ≡ length (mid_of total (length keys - total) keys)
            → ObjectWritten s at depth before keys₀ spare (put_mid m (length mid - m) mid part) (put_mid total (length keys - total) keys ks) total
            (m + r) (i + 1)
        advanced ks lent =
            let k = taken in
            let e = same_len_mid total (length keys - total) keys ks lent in
            let d = p.done ++ comma (eqb i 0) in
            let form = member_form k.key k.value in
            record {
              all = p.all;
              space = p.space;
              some = p.some;
              within = omega (arith, p.within);
              same = e ∙ p.same;
              left = k.others;
              members = rw (take_put total (length keys - total) keys ks p.within) k.left;
              done = d ++ form;
              size = omega (arith, size, here.0, length-append d form);
              written = part_written w m part form size here.1;
              begun = omega (arith, p.begun, f);
              paid = paid_more;
              joins = rw (ne_eqb (i + 1) 0 (λ z. omega arith)) (append_assoc d form _ ∙ append_assoc p.done (comma (eqb i 0)) _ ∙ k.joins);
            }

  -- the end mark
  module _ (t : total ≤ i) where
    ended : p.done ++ (0x7D ∷ []) ≡ canonical (object p.all)
    ended = go p.left p.joins (rw (drop_of_length-le (take total keys) {i = i} (omega (arith, length-take-le total keys p.within))) at p.members)
      where
        go : (fs : Fields) → p.done ++ (write_fields (eqb i 0) fs ++ (0x7D ∷ [])) ≡ canonical (object p.all) → MembersAt s (depth - 1) [] fs
            → p.done ++ (0x7D ∷ []) ≡ canonical (object p.all)
        go fs j no_members = rw (no_fields_form (eqb i 0)) at j

    -- Where no member is left, there is space for the closing brace.
    pub end_fits : n < length out
    end_fits = Marks.end_fits p.space p.size p.written 0x7D ended

    -- With the closing brace, the canonical form of the value at position `at` is written.
    pub finished : (v : Value) → ValueAt s at depth v → Written before (set out n 0x7D) (n + 1) (canonical v)
    finished = Marks.finished p.space p.size p.written 0x7D ended
