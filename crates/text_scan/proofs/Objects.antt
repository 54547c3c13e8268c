-- Reading the members of an object from the left.
use Rattle.std.specs.Prelude.{Result, Err, Ok}
use Prim.Native.Nat.{ℕ, ◌+◌, ◌*◌, ◌-◌, ◌<◌, ◌≤◌, max}
use mathlib.Core.Path.{◌≡◌, refl, sym, ap, subst, ◌∙◌}
use mathlib.Core.List.{List, [], ◌∷◌, ◌++◌}
use mathlib.Core.Bool.{Bool, true, cond, ◌&&◌, and-true, and_assoc}
use native.Mathlib.Omega.{arith}
use native.Mathlib.Numerals.{add-one}
use lib.ListN.{length, take, drop, get_or, set, length-append, length-set}
use lib.Seq.{take-suc-set}
use borrow.Rule.Slice.PartMut.{mid_of, put_mid, same_len_mid, mid_len, take_put}
use Rattle.text_json.specs.Syntax.{Syntax, Char, Members, no_members, object, members, Member}
use Rattle.text_json.specs.Read.{Read, found, stuck, and_then, spaces, read_listed, read_pair, read_string, read_word, read}
use Rattle.text_json.specs.Content.{refused_string, unescape}
use Rattle.text_json.specs.Size.{string_size}
use Rattle.text_json.specs.Scan.{At, ScansToken as TokenScans}
use Rattle.text_json.specs.declared.Token.{Token}
use Rattle.text_json.proofs.Items.{items_from, prepend_all}
use Rattle.text_json.proofs.Grammar.Ends.{inside_length}
use Rattle.text_json.proofs.Grammar.Rests.{pair_inside, value_ends}
use Rattle.text_json.proofs.Grammar.Sound.{string_sound, pair_sound, value_reads}
use Rattle.text_json.specs.Grammar.{String}
use Rattle.text_content.specs.Value.{content, fields}
use Rattle.text_content.specs.Canonical.{canonical, ordered, ordered_fields, keys_ordered}
use Rattle.text_content.specs.Fault.{mark, repeated, string_fault, key_string_faults, number_fault, member_number_faults, key_fault, member_key_faults}
use Rattle.text_content.proofs.Size.{size_of, size_of_members, enclosed, size_canonical, size_empty, size_enclosed, size_members_append}
use Rattle.laws.specs.Sort.{sort}
use Rattle.text_strings.specs.InString.{Inside, InString, content_from, key_le}
use Rattle.text_strings.proofs.Contents.{content_from_is}
use Rattle.text_strings.proofs.Views.{rest_at}
use Rattle.text_keys.specs.Keys.{KeysAt, no_keys, key_at}
use Rattle.text_keys.specs.Repeats.{Places, no_places, place_at}
use Rattle.text_keys.proofs.Keys.{keys_append}
use Rattle.text_keys.proofs.Repeats.{repeated_places}
use Rattle.text_keys.proofs.Orders.{rising_places}
use Rattle.text_tokens.specs.Summary.{summary, plain_summary, plus, member_summary, member_count, own_key_count}
use Rattle.text_tokens.specs.Scanned.{ScansValue, Follows, KeyWithin, read_key, plain_value, closed_summary, closed_value}
use Rattle.text_scan.specs.Scanned.{read_object, KeysOf}
use Rattle.text_tokens.specs.declared.Summary.{Summary}
use Rattle.text_tokens.specs.declared.ScannedValue.{ScannedValue}
use Rattle.text_tokens.specs.declared.After.{After}
use Rattle.text_scan.proofs.Results.{IsValue, scans_stuck, value_later, value_size, listed_empty, listed_items, item_stuck, item_ends, item_sticks}
use Rattle.text_scan.proofs.Results.{item_more}
use Rattle.text_tokens.proofs.Tokens.{mark_at}
use Rattle.text_scan.proofs.Keys.{keys_of, no_keys_left}

-- the faults, the length and the order of the members so far, with the object's opening mark; its own keys are looked at at its end
pub object_sum : List Member → Summary
object_sum ms =
    record {
      string = key_string_faults (members ms);
      number = member_number_faults (members ms);
      key = member_key_faults (members ms);
      size = 1 + size_of_members (members ms);
      ordered = ordered_fields (fields (members ms));
    }

-- a member on its own
pub member_sum : Member → Summary
member_sum m = member_summary (mark (refused_string m.key) m.place) (string_size m.key) (summary m.value)

-- a largest of faults, one member more at the end
module _ (fault : Member → ℕ) (faults : Members → ℕ) (none : faults no_members ≡ 0) (one : (m : Member) (ms : List Member)
    → faults (members (m ∷ ms)) ≡ max (fault m) (faults (members ms))) where
  faults_snoc : (ms : List Member) (m : Member) → faults (members (ms ++ (m ∷ []))) ≡ max (faults (members ms)) (fault m)
  unfolding members
  faults_snoc [] m = omega (arith, one m [], none)
  faults_snoc (n ∷ ms) m =
      let ih = faults_snoc ms m in
      omega (arith, one n (ms ++ (m ∷ [])), one n ms)

string_one : (m : Member) (ms : List Member) → key_string_faults (members (m ∷ ms))
    ≡ max (max (mark (refused_string m.key) m.place) (string_fault m.value)) (key_string_faults (members ms))
unfolding key_string_faults members
string_one m ms = refl

number_one : (m : Member) (ms : List Member) → member_number_faults (members (m ∷ ms)) ≡ max (number_fault m.value) (member_number_faults (members ms))
unfolding member_number_faults members
number_one m ms = refl

key_one : (m : Member) (ms : List Member) → member_key_faults (members (m ∷ ms)) ≡ max (key_fault m.value) (member_key_faults (members ms))
unfolding member_key_faults members
key_one m ms = refl

string_none : key_string_faults no_members ≡ 0
unfolding key_string_faults
string_none = refl

number_none : member_number_faults no_members ≡ 0
unfolding member_number_faults
number_none = refl

key_none : member_key_faults no_members ≡ 0
unfolding member_key_faults
key_none = refl

-- the order of the keys inside the members, one more at the end
ordered_snoc : (ms : List Member) (m : Member)
    → ordered_fields (fields (members (ms ++ (m ∷ [])))) ≡ (ordered_fields (fields (members ms)) && ordered (content m.value))
unfolding members fields ordered_fields
ordered_snoc [] m = and-true (ordered (content m.value))
ordered_snoc (n ∷ ms) m =
    ap (λ (b : Bool). ordered (content n.value) && b) (ordered_snoc ms m)
    ∙ sym (and_assoc (ordered (content n.value)) (ordered_fields (fields (members ms))) (ordered (content m.value)))

-- an object has as many keys as there are places of them
own_places : (s : List ℕ) {ms : List Member} {ks : List ℕ} → Places s ms ks → length ks ≡ own_key_count (object (members ms))
unfolding members own_key_count member_count
own_places s no_places = refl
own_places s (place_at {ks = ks} e f p) = let n = own_places s p in omega arith

no_size : size_of_members no_members ≡ 0
unfolding size_of_members
no_size = refl

one_size : (m : Member) → size_of_members (members (m ∷ [])) ≡ string_size m.key + 1 + size_of m.value + 1
unfolding size_of_members members string_size
one_size m = omega arith

size_object : (ms : Members) → size_of (object ms) ≡ enclosed (size_of_members ms)
unfolding size_of
size_object ms = refl

sum_snoc : (ms : List Member) (m : Member) → plus (object_sum ms) (member_sum m) ≡ object_sum (ms ++ (m ∷ []))
unfolding object_sum member_sum member_summary plus summary
sum_snoc ms m = λ i. record { string = sym strings i; number = sym numbers i; key = sym keys i; size = sizes i; ordered = sym (ordered_snoc ms m) i }
  where
    strings : key_string_faults (members (ms ++ (m ∷ []))) ≡ max (key_string_faults (members ms))
        (max (mark (refused_string m.key) m.place) (string_fault m.value))
    strings = faults_snoc (λ n. max (mark (refused_string n.key) n.place) (string_fault n.value)) key_string_faults string_none string_one ms m

    numbers : member_number_faults (members (ms ++ (m ∷ []))) ≡ max (member_number_faults (members ms)) (number_fault m.value)
    numbers = faults_snoc (λ n. number_fault n.value) member_number_faults number_none number_one ms m

    keys : member_key_faults (members (ms ++ (m ∷ []))) ≡ max (member_key_faults (members ms)) (key_fault m.value)
    keys = faults_snoc (λ n. key_fault n.value) member_key_faults key_none key_one ms m

    sizes : 1 + size_of_members (members ms) + (string_size m.key + length (canonical (content m.value)) + 1) + 1
        ≡ 1 + size_of_members (members (ms ++ (m ∷ [])))
    sizes = omega (arith, size_members_append ms (m ∷ []), size_canonical m.value, one_size m)

-- the whole object's summary, with the first key that is equal to an earlier one, and the order of its own keys
sum_object : (s : List ℕ) (ms : List Member) (ks : List ℕ) → Places s ms ks → 1 ≤ length ms → closed_summary s (object_sum ms) ks ≡ summary (object (members ms))
unfolding closed_summary object_sum summary string_fault number_fault key_fault content ordered
sum_object s ms ks p h = λ i.
    record {
      string = key_string_faults (members ms);
      number = member_number_faults (members ms);
      key = max (sym (repeated_places s p) i) (member_key_faults (members ms));
      size = size i;
      ordered = rising_places s p i && ordered_fields (fields (members ms));
    }
  where
    some : (ns : List Member) → 1 ≤ length ns → 1 ≤ size_of_members (members ns)
    some [] k = absurd (omega arith)
    some (n ∷ ns) k = omega (arith, size_members_append (n ∷ []) ns, one_size n)

    size : 1 + size_of_members (members ms) ≡ length (canonical (content (object (members ms))))
    size = sym (size_enclosed (size_of_members (members ms)) (some ms h)) ∙ sym (size_object (members ms)) ∙ size_canonical (object (members ms))

sum_empty : summary (object no_members) ≡ plain_summary 2
unfolding summary string_fault number_fault key_fault repeated content ordered keys_ordered
sum_empty = λ i. record {
  string = 0;
  number = 0;
  key = 0;
  size = (sym (size_canonical (object no_members)) ∙ size_object no_members ∙ ap enclosed no_size
      ∙ size_empty) i;
  ordered = true;
}

-- a member is read as its key with the colon, and its value
pair_by_key : (value : List ℕ → Read Syntax) (s : List ℕ)
    → read_pair value s ≡ and_then (read_key s) (λ cs q. and_then (value q) (λ t r. found (record { place = s; key = cs; value = t }) r))
unfolding read_pair read_key and_then
pair_by_key value s = by_string (read_string s)
  where
    by_word : (cs : List Char) (y : Read (Unit {0}))
        → and_then y (λ _ s₂. and_then {B = Member} (value (spaces s₂)) (λ t r. found (record { place = s; key = cs; value = t }) r))
        ≡ and_then (and_then y (λ _ s₂. found cs (spaces s₂))) (λ ds q. and_then {B = Member} (value q)
        (λ t r. found (record { place = s; key = ds; value = t }) r))
    by_word cs (found u r) = refl
    by_word cs (stuck r) = refl

    by_string : (x : Read (List Char))
        → and_then x (λ cs s₁. and_then (read_word (0x3A ∷ []) (spaces s₁))
        (λ _ s₂. and_then {B = Member} (value (spaces s₂)) (λ t r. found (record { place = s; key = cs; value = t }) r)))
        ≡ and_then (and_then x (λ cs s₁. and_then (read_word (0x3A ∷ []) (spaces s₁)) (λ _ s₂. found cs (spaces s₂))))
        (λ ds q. and_then {B = Member} (value q) (λ t r. found (record { place = s; key = ds; value = t }) r))
    by_string (found cs r) = by_word cs (read_word (0x3A ∷ []) (spaces r))
    by_string (stuck r) = refl

pair_shorter : (d : ℕ) (s : List ℕ) (m : Member) (r : List ℕ) → read_pair (read d) s ≡ found m r → length r < length s
pair_shorter d s m r e = inside_length (pair_inside (value_ends d) s m r (pair_sound (value_reads d) (value_ends d) s m r e))

pair_nothing : (d : ℕ) → read_pair (read d) [] ≡ stuck []
unfolding read_pair read_string and_then
pair_nothing d = refl

-- a key that was read at i: its value begins at v
pub record IsName (s : List ℕ) (i v fault size : ℕ) : Type 0 where
  pub chars : List Char
  pub reads : read_key (drop i s) ≡ found chars (drop v s)
  pub faulty : fault ≡ mark (refused_string chars) (drop i s)
  pub sized : size ≡ string_size chars
  pub within : v ≤ length s
  pub later : i + 2 < v
  pub short : i + size < v

-- A key that is scanned at position `i` is read there, with its end, its fault and the length of its canonical form.
pub token_name : (s : List ℕ) (i k : ℕ) (t : Token) → KeyWithin i (Ok t) → TokenScans refused_string string_size s (read_key (drop i s)) (Ok t)
    → k ≡ cond t.refused (length s - i) 0 → IsName s i t.end k t.size
token_name s i k t w p m = go (read_key (drop i s)) refl p
  where
    go : (x : Read (List Char)) → read_key (drop i s) ≡ x → TokenScans refused_string string_size s x (Ok t) → IsName s i t.end k t.size
    go (found cs r) q z =
        record {
          chars = cs;
          reads = q ∙ ap (found cs) z.0.1;
          faulty = m ∙ sym (mark_at t.refused s i) ∙ ap (λ (b : Bool). mark b (drop i s)) z.1;
          sized = z.2;
          within = z.0.0;
          later = w.0;
          short = w.1;
        }
    go (stuck r) q z = absurd z

-- If no key is scanned at position `i`, reading a key there is stuck at the position that is told, within the text.
pub none_stuck : (s : List ℕ) (i e : ℕ) → TokenScans refused_string string_size s (read_key (drop i s)) (Err e)
    → (e ≤ length s) × (read_key (drop i s) ≡ stuck (drop e s))
none_stuck s i e p = go (read_key (drop i s)) refl p
  where
    go : (x : Read (List Char)) → read_key (drop i s) ≡ x → TokenScans refused_string string_size s x (Err e)
        → (e ≤ length s) × (read_key (drop i s) ≡ stuck (drop e s))
    go (found cs r) q z = absurd z
    go (stuck r) q z = (z.0, q ∙ ap stuck z.1)

-- the key's content stands after its quotation mark
string_inside : (s : List ℕ) (i : ℕ) (cs : List Char) (r : List ℕ) → read_string (drop i s) ≡ found cs r → InString s (i + 1) (unescape cs)
string_inside s i cs r e = go (drop i s) refl (string_sound (drop i s) cs r e)
  where
    go : (l : List ℕ) → drop i s ≡ l → String l cs r → InString s (i + 1) (unescape cs)
    go l q (String.quoted {q = b} {s = m} h p) = record { chars = cs; rest = r; reads = rw (rest_at s i (b ∷ m) q 1) p; content = refl }

name_inside : (s : List ℕ) (i v fault size : ℕ) (p : IsName s i v fault size) → InString s (i + 1) (unescape p.chars)
unfolding read_key and_then
name_inside s i v fault size p = go (read_string (drop i s)) refl p.reads
  where
    word : (y : Read (Unit {0})) (cs : List Char) → and_then y (λ _ s₂. found cs (spaces s₂)) ≡ found p.chars (drop v s) → cs ≡ p.chars
    word (found u r) cs e = cc
    word (stuck r) cs e = let z : ◌≡◌ {A = ℕ} 0 1 = cc in absurd (omega arith)

    go : (x : Read (List Char)) → read_string (drop i s) ≡ x
        → and_then x (λ cs s₁. and_then (read_word (0x3A ∷ []) (spaces s₁)) (λ _ s₂. found cs (spaces s₂))) ≡ found p.chars (drop v s)
        → InString s (i + 1) (unescape p.chars)
    go (found cs r) q e = subst (λ (ds : List Char). InString s (i + 1) (unescape ds)) (word (read_word (0x3A ∷ []) (spaces r)) cs e) (string_inside s i cs r q)
    go (stuck r) q e = let z : ◌≡◌ {A = ℕ} 0 1 = cc in absurd (omega arith)

-- Reading goes on at i with these members done, after the opening mark at `at`; their keys stand at the positions ks.
pub record ObjectScanned (s : List ℕ) (at depth i : ℕ) (ks : List ℕ) (sum : Summary) : Type 0 where
  pub done : List Member
  pub reads : read_listed (read_pair (read depth)) 0x7D (drop at s) ≡ prepend_all done (items_from (read_pair (read depth)) 0x7D (drop i s))
  pub holds : sum ≡ object_sum done
  pub places : Places s done ks
  pub keys : KeysAt s ks
  pub from : at + 4 * length ks ≤ i
  pub within : i ≤ length s
  pub small : sum.size + at ≤ i + 1

places_snoc : (s : List ℕ) {ms : List Member} {ks : List ℕ} (m : Member) (k : ℕ) → Places s ms ks → m.place ≡ drop k s
    → unescape m.key ≡ content_from s (k + 1)
    → Places s (ms ++ (m ∷ [])) (ks ++ (k ∷ []))
places_snoc s m k no_places e f = place_at e f no_places
places_snoc s m k (place_at a b p) e f = place_at a b (places_snoc s m k p e f)

module _ (s : List ℕ) (at depth : ℕ) where
  nothing : (i : ℕ) → (at ≤ i) × At s i (spaces (drop at s)) → i < length s → get_or s i 0 ≡ 0x7D
      → read_object depth (drop at s) ≡ found (object (members [])) (drop (i + 1) s)
  unfolding read_object and_then
  nothing i p w e = rw (listed_empty (read_pair (read depth)) 0x7D s at i p.1 w e)

  -- If only spaces stand before the closing brace, the object ends after it and has a canonical form of two bytes.
  pub empty : (i : ℕ) → (at ≤ i) × At s i (spaces (drop at s)) → i < length s → get_or s i 0 ≡ 0x7D
      → ScansValue s (read_object depth (drop at s)) (plain_value (i + 1) 2)
  unfolding members own_key_count member_count
  empty i p w e = rw (nothing i p w e) ((omega arith, refl), sym sum_empty, refl)

  -- If only spaces stand before the closing brace, the object leaves 0 keys, whatever the array of keys holds.
  pub empty_keys : (i : ℕ) → (at ≤ i) × At s i (spaces (drop at s)) → i < length s → get_or s i 0 ≡ 0x7D → (keys : List ℕ)
      → KeysOf s (read_object depth (drop at s)) 0 keys
  empty_keys i p w e keys = keys_of s (read_object depth (drop at s)) [] (drop (i + 1) s) 0 keys (nothing i p w e) (no_keys_left s keys)

  -- If no closing brace stands after the first spaces, reading goes on there with no member done.
  pub start : (i : ℕ) → (at ≤ i) × At s i (spaces (drop at s)) → (i < length s → get_or s i 0 ≡ 0x7D → ⊥)
      → ObjectScanned s at depth i [] (plain_summary 1)
  unfolding prepend_all object_sum members key_string_faults member_number_faults member_key_faults fields ordered_fields
  start i p n =
      record {
        done = [];
        reads = listed_items (read_pair (read depth)) 0x7D s at i p.1 n;
        holds = λ k. record { string = 0; number = 0; key = 0; size = (sym (ap (λ (m : ℕ). 1 + m) no_size)) k; ordered = true };
        places = no_places;
        keys = no_keys;
        from = omega (arith, p.0);
        within = p.1.0;
        small = omega (arith, p.0);
      }

module _ {s : List ℕ} {at depth i : ℕ} {ks : List ℕ} {sum : Summary} (p : ObjectScanned s at depth i ks sum) where
  -- no member can be read at i
  stuck_pair : (e : ℕ) → e ≤ length s → read_pair (read depth) (drop i s) ≡ stuck (drop e s) → ScansValue s (read_object depth (drop at s)) (Err e)
  unfolding read_object and_then
  stuck_pair e w q =
      rw (item_stuck (read_pair (read depth)) 0x7D (pair_shorter depth) (pair_nothing depth) s i p.done
      (read_listed (read_pair (read depth)) 0x7D (drop at s)) p.reads e q) (w, refl)

  -- If reading a key at position `i` is stuck, reading the object is stuck at the same position.
  pub stuck_key : (e : ℕ) → TokenScans refused_string string_size s (read_key (drop i s)) (Err e) → ScansValue s (read_object depth (drop at s)) (Err e)
  unfolding and_then
  stuck_key e q = let r = none_stuck s i e q in stuck_pair e r.0 (pair_by_key (read depth) (drop i s) ∙ rw r.1)

  module _ {v fault size : ℕ} (q : IsName s i v fault size) where
    -- If reading the member's value is stuck, reading the object is stuck at the same position.
    pub stuck_value : (e : ℕ) → ScansValue s (read depth (drop v s)) (Err e) → ScansValue s (read_object depth (drop at s)) (Err e)
    unfolding and_then
    stuck_value e z =
        let r = scans_stuck s (read depth (drop v s)) e z in
        stuck_pair e r.0 (pair_by_key (read depth) (drop i s) ∙ rw q.reads (rw r.1))

    -- The position after the opening quotation mark of the key stands in a string.
    pub inside : Inside s (i + 1)
    inside = record { bytes = unescape q.chars; here = name_inside s i v fault size q }

    -- The positions of the keys so far and of this one are all places of keys.
    pub keys_now : KeysAt s (ks ++ (i ∷ []))
    keys_now = keys_append p.keys (key_at inside no_keys)

    -- there is a place for the key, and enough of them after it for the value's
    pub key_space : (l : ℕ) → length s < at + 4 * l → length ks < l
    key_space l h = omega (arith, p.from, q.later, q.within)

    -- Past the places of the keys so far and of this one, there are enough for the keys of the member's value.
    pub value_space : (l : ℕ) → length s < at + 4 * l → length s ≤ v + 4 * (l - (length ks + 1))
    value_space l h = omega (arith, p.from, q.later, key_space l h)

    module _ {f : ScannedValue} (z : IsValue s (read depth (drop v s)) f) where
      tree : Member
      tree = record { place = drop i s; key = q.chars; value = z.tree }

      pair_reads : read_pair (read depth) (drop i s) ≡ found tree (drop f.end s)
      unfolding and_then tree
      pair_reads = pair_by_key (read depth) (drop i s) ∙ rw q.reads (rw z.reads)

      -- The member's value ends after the position at which it begins.
      pub later : v < f.end
      later = value_later s depth v f q.within z

      -- The canonical form so far with that of the member is no longer than the object's text up to the member's end.
      pub fits : sum.size + size + f.sum.size + 1 + at ≤ f.end + 1
      fits = omega (arith, value_size s depth v f q.within z, p.small, q.short)

      now_holds : plus sum (member_summary fault size f.sum) ≡ object_sum (p.done ++ (tree ∷ []))
      unfolding member_sum tree
      now_holds =
          ap (λ (x : Summary). plus x (member_summary fault size f.sum)) p.holds
          ∙ ap (λ (k : ℕ). plus (object_sum p.done) (member_summary k size f.sum)) q.faulty
          ∙ ap (λ (k : ℕ). plus (object_sum p.done) (member_summary (mark (refused_string q.chars) (drop i s)) k f.sum)) q.sized
          ∙ ap (λ (x : Summary). plus (object_sum p.done) (member_summary (mark (refused_string q.chars) (drop i s)) (string_size q.chars) x)) z.sum
          ∙ sum_snoc p.done tree

      now_places : Places s (p.done ++ (tree ∷ [])) (ks ++ (i ∷ []))
      unfolding tree
      now_places = places_snoc s tree i p.places refl (sym (content_from_is s (i + 1) (unescape q.chars) (name_inside s i v fault size q)))

      whole_reads : (e : ℕ) → Follows s f.end 0x7D (Ok (After.End e))
          → read_object depth (drop at s) ≡ found (object (members (p.done ++ (tree ∷ [])))) (drop e s)
      unfolding read_object and_then
      whole_reads e w =
          rw (item_ends (read_pair (read depth)) 0x7D (pair_shorter depth) (pair_nothing depth) s i p.done
          (read_listed (read_pair (read depth)) 0x7D (drop at s)) p.reads tree f.end pair_reads e w)

      -- If the closing brace follows the member, the object is read, and its summary is that of the members done and this one.
      pub ends : (e : ℕ) → Follows s f.end 0x7D (Ok (After.End e))
          → ScansValue s (read_object depth (drop at s)) (closed_value s e (plus sum (member_summary fault size f.sum)) (ks ++ (i ∷ [])))
      ends e w = rw (whole_reads e w) ((w.1, refl), closing, own_places s now_places)
        where
          closing : closed_summary s (plus sum (member_summary fault size f.sum)) (ks ++ (i ∷ [])) ≡ summary (object (members (p.done ++ (tree ∷ []))))
          closing =
              ap (λ (x : Summary). closed_summary s x (ks ++ (i ∷ []))) now_holds
              ∙ sum_object s (p.done ++ (tree ∷ [])) (ks ++ (i ∷ [])) now_places (omega (arith, length-append p.done (tree ∷ [])))

      -- its keys, once they are sorted
      pub ends_keys : (e : ℕ) → Follows s f.end 0x7D (Ok (After.End e))
          → (n : ℕ) (keys : List ℕ) → n ≤ length keys → take n keys ≡ sort (key_le s) (ks ++ (i ∷ [])) → KeysOf s (read_object depth (drop at s)) n keys
      ends_keys e w n keys h k =
          keys_of s (read_object depth (drop at s)) (p.done ++ (tree ∷ [])) (drop e s) n keys (whole_reads e w)
          (record { places = ks ++ (i ∷ []); here = now_places; within = h; sorted = k })

      -- If neither a comma nor the closing brace follows the member, reading the object is stuck there.
      pub sticks : (e : ℕ) → Follows s f.end 0x7D (Err e) → ScansValue s (read_object depth (drop at s)) (Err e)
      unfolding read_object and_then
      sticks e w =
          rw (item_sticks (read_pair (read depth)) 0x7D (pair_shorter depth) (pair_nothing depth) s i p.done
          (read_listed (read_pair (read depth)) 0x7D (drop at s)) p.reads tree f.end pair_reads e w)
          (w.0.0, refl)

      -- If a comma follows the member, reading goes on at the next one with this member done.
      pub goes_on : (j : ℕ) → Follows s f.end 0x7D (Ok (After.More j))
          → ObjectScanned s at depth j (ks ++ (i ∷ [])) (plus sum (member_summary fault size f.sum))
      unfolding plus member_summary
      goes_on j w =
          record {
            done = p.done ++ (tree ∷ []);
            reads = item_more (read_pair (read depth)) 0x7D (pair_shorter depth) (pair_nothing depth) s i p.done
                (read_listed (read_pair (read depth)) 0x7D (drop at s)) p.reads tree f.end pair_reads j w;
            holds = now_holds;
            places = now_places;
            keys = keys_now;
            from = omega (arith, p.from, q.later, later, w.0, length-append ks (i ∷ []));
            within = w.1;
            small = omega (arith, fits, w.0);
          }

-- the keys with one more, before the part that was lent and comes back
abbrev pub with_key : List ℕ → ℕ → ℕ → List ℕ → List ℕ
with_key keys n i part = put_mid (n + 1) (length (set keys n i) - (n + 1)) (set keys n i) part

module _ (keys : List ℕ) (n i : ℕ) (h : n < length keys) (part : List ℕ)
    (kept : length part ≡ length (mid_of (n + 1) (length (set keys n i) - (n + 1)) (set keys n i))) where
  -- An array of keys in which a key is stored and to which the lent part comes back is as long as before.
  pub stored_length : length (with_key keys n i part) ≡ length keys
  stored_length = same_len_mid (n + 1) (length (set keys n i) - (n + 1)) (set keys n i) part kept ∙ length-set keys n i

  -- The first keys of such an array are those from before and the stored one.
  pub stored_keys : take (n + 1) (with_key keys n i part) ≡ take n keys ++ (i ∷ [])
  stored_keys =
      take_put (n + 1) (length (set keys n i) - (n + 1)) (set keys n i) part (simp length-set (omega arith))
      ∙ ap (λ (m : ℕ). take m (set keys n i)) (add-one n) ∙ take-suc-set keys n i h

-- The part of an array of keys past a stored key is as long as the array less the keys up to that one.
pub lent_length : (keys : List ℕ) (n i : ℕ) → n < length keys → length (mid_of (n + 1) (length (set keys n i) - (n + 1)) (set keys n i)) ≡ length keys - (n + 1)
lent_length keys n i h = mid_len (n + 1) (length (set keys n i)) (set keys n i) (omega arith) ∙ ap (λ (m : ℕ). m - (n + 1)) (length-set keys n i)

-- The size of a member is that of its key and that of its value, and 1 for the colon.
pub member_size : (fault size : ℕ) (v x : Summary) → x ≡ member_summary fault size v → x.size ≡ size + v.size + 1
unfolding member_summary
member_size fault size v x e = ap (λ (y : Summary). y.size) e

-- an object's end and what it holds, by equal parts
pub closed_same : (s : List ℕ) (r : Read Syntax) (e : ℕ) (x m n sum : Summary) (ks ls : List ℕ) (z : Result ScannedValue ℕ)
    → z ≡ closed_value s e x ks → x ≡ plus sum m → m ≡ n → ks ≡ ls → ScansValue s r (closed_value s e (plus sum n) ls) → ScansValue s r z
closed_same s r e x m n sum ks ls z a b c d p =
    subst (ScansValue s r) (sym (a ∙ ap (λ (w : Summary). closed_value s e w ks) (b ∙ ap (plus sum) c) ∙ ap (closed_value s e (plus sum n)) d)) p
