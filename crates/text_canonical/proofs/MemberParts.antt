-- How a member is written: its key, a colon and its value.
use Prim.Native.Nat.{ℕ, ◌+◌, ◌-◌, ◌<◌, ◌≤◌}
use mathlib.Core.Path.{◌≡◌, sym, ap, ◌∙◌}
use mathlib.Core.List.{List, [], ◌∷◌, ◌++◌, append_assoc}
use mathlib.Core.Bool.{true}
use native.Mathlib.Omega.{arith}
use lib.ListN.{length, set, length-append}
use borrow.Rule.Slice.PartMut.{mid_of, put_mid}
use Rattle.text_json.specs.Content.{quoted}
use Rattle.text_content.specs.Value.{Value}
use Rattle.text_content.specs.Canonical.{canonical}
use Rattle.text_strings.specs.InString.{Inside, content_from}
use Rattle.laws.specs.Writes.{Writes}
use Rattle.laws.proofs.Writing.{same_length, lent_length, byte_written, part_written}
use Rattle.text_view.specs.Place.{ValueAt}
use Rattle.text_view.specs.Listed.{SomeItem, ItemValue}
use Rattle.text_canonical.specs.Members.{MemberAt, member_form}
use Rattle.text_canonical.specs.Space.{Writable, WritableMember, Written}
use Rattle.text_canonical.proofs.Members.{member_key, member_content, member_value}

module _ {s : List ℕ} {at depth : ℕ} {out keys spare : List ℕ} (p : WritableMember s at depth out keys spare) where
  -- The position after the opening quotation mark of the member's key stands in a string.
  pub key_inside : Inside s (at + 1)
  key_inside = record { bytes = p.key; here = member_key s at depth p.key p.value p.here }

  key_form : quoted (content_from s (at + 1)) ≡ quoted p.key
  key_form = ap quoted (member_content s at depth p.key p.value p.here)

  whole : length (quoted (content_from s (at + 1))) + 1 + length (canonical p.value) ≤ length out
  whole = omega (arith, ap length key_form, length-append (quoted p.key) (0x3A ∷ canonical p.value), p.form)

  -- There is space for the key in canonical form.
  pub key_fits : length (quoted (content_from s (at + 1))) ≤ length out
  key_fits = omega (arith, whole)

  -- At position `at` stands a member.
  pub item : SomeItem s at true
  item = let m = p.here in record { depth = depth; tree = m.tree; rest = m.rest; derives = m.derives; stops = m.stops }

  -- once the key is written
  module _ (n : ℕ) (mid : List ℕ) (w : Written out mid n (quoted (content_from s (at + 1)))) where
    -- Once the key is written, there is space for the colon.
    pub colon_fits : n < length mid
    colon_fits = omega (arith, whole, w.0, same_length w.1)

    colon : Writes out (set mid n 0x3A) (quoted (content_from s (at + 1)) ++ (0x3A ∷ []))
    colon = byte_written w.1 n 0x3A w.0 (omega (arith, whole, w.0))

    size : n + 1 ≡ length (quoted (content_from s (at + 1)) ++ (0x3A ∷ []))
    size = omega (arith, w.0, length-append (quoted (content_from s (at + 1))) (0x3A ∷ []))

    -- What is written up to the colon is no longer than the output.
    pub part_fits : n + 1 ≤ length (set mid n 0x3A)
    part_fits = omega (arith, whole, w.0, same_length colon)

    module _ (q : ℕ) (v : ItemValue s at true q) where
      -- The member's value, at position `q`, may be written into the rest of the output.
      pub value : Writable s q depth (mid_of (n + 1) (length (set mid n 0x3A) - (n + 1)) (set mid n 0x3A)) keys spare
      value =
          record {
            value = p.value;
            space = record {
              here = member_value s at depth p.key p.value p.here q v;
              short = p.short;
              form = omega (arith, whole, w.0, lent_length colon (n + 1) size);
              enough = p.enough;
              sorting = p.sorting;
            };
          }

      module _ (r : ℕ) (part : List ℕ)
          (h : (x : Value) → ValueAt s q depth x → Written (mid_of (n + 1) (length (set mid n 0x3A) - (n + 1)) (set mid n 0x3A)) part r (canonical x)) where
        -- The key, the colon and the value together are no longer than the output.
        pub result_fits : n + 1 + r ≤ length out
        result_fits = omega (arith, whole, w.0, (h p.value (member_value s at depth p.key p.value p.here q v)).0)

        -- With the value written too, the canonical form of the member at position `at` is written.
        pub completed : (k : List ℕ) (x : Value) → MemberAt s at depth k x
            → Written out (put_mid (n + 1) (length (set mid n 0x3A) - (n + 1)) (set mid n 0x3A) part) (n + 1 + r) (member_form k x)
        completed k x m =
            let c = content_from s (at + 1) in
            let y = h x (member_value s at depth k x m q v) in
            let form : member_form k x ≡ (quoted c ++ (0x3A ∷ [])) ++ canonical x
            = sym (append_assoc (quoted c) (0x3A ∷ []) (canonical x)
            ∙ ap (λ (l : List ℕ). quoted l ++ (0x3A ∷ canonical x)) (member_content s at depth k x m)) in
            rw form (
              omega (arith, size, y.0, length-append (quoted c ++ (0x3A ∷ [])) (canonical x)),
              part_written colon (n + 1) part (canonical x) size y.1,
            )
