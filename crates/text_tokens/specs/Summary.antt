-- What a value of the text is found to hold: its first faults by questions 4 to 6, each by how many bytes of the text are left from
-- there on and 0 where there is none, the length of its canonical form, and whether the keys of its objects are in rising order.
use Rattle.std.specs.Prelude.{ℕ, ◌+◌, max, true, ◌&&◌, length}
use Rattle.text_json.specs.Syntax.{Syntax, Members, null, boolean, number, string, array, object, no_members, member}
use Rattle.text_content.specs.Value.{content}
use Rattle.text_content.specs.Canonical.{canonical, ordered}
use Rattle.text_content.specs.Fault.{string_fault, number_fault, key_fault}
use Rattle.text_tokens.specs.declared.Summary.{Summary}

unfoldable pub summary : Syntax → Summary
summary t =
    record {
      string = string_fault t;
      number = number_fault t;
      key = key_fault t;
      size = length (canonical (content t));
      ordered = ordered (content t);
    }

-- what is held where there is no fault, no key out of order, and a canonical form of that length
abbrev pub plain_summary : ℕ → Summary
plain_summary n = record { string = 0; number = 0; key = 0; size = n; ordered = true }

-- what is held so far and one more element or member, which counts with the mark after it
unfoldable pub plus : Summary → Summary → Summary
plus a b =
    record {
      string = max a.string b.string;
      number = max a.number b.number;
      key = max a.key b.key;
      size = a.size + b.size + 1;
      ordered = a.ordered && b.ordered;
    }

-- a member of a key, by the key's fault and the length of its canonical form, and a value; the colon counts too
unfoldable pub member_summary : ℕ → ℕ → Summary → Summary
member_summary fault size v =
    record { string = max fault v.string; number = v.number; key = v.key; size = size + v.size + 1; ordered = v.ordered }

unfoldable pub member_count : Members → ℕ
member_count no_members = 0
member_count (member p cs t ms) = member_count ms + 1

-- how many keys a value has itself: an object's members, and none where it is no object
unfoldable pub own_key_count : Syntax → ℕ
own_key_count null = 0
own_key_count (boolean b) = 0
own_key_count (number p n) = 0
own_key_count (string p cs) = 0
own_key_count (array es) = 0
own_key_count (object ms) = member_count ms
