-- How far the aliases of a group were listed with the numbers of their objects. Assumes nothing.
use Prim.Native.Nat.{ℕ, zero, suc, ◌+◌, ◌*◌, ◌-◌, ◌≤◌, ◌<◌}
use mathlib.Core.Path.{◌≡◌, refl, sym, ap, subst, ◌∙◌}
use mathlib.Core.List.{List, [], ◌∷◌, ◌++◌, map, append_assoc, append-nil}
use mathlib.Core.Bool.{true}
use native.Mathlib.Omega.{arith}
use native.Mathlib.Numerals.{add-one}
use lib.ListN.{length, take, get_or, set, replicate, length-append}
use lib.Seq.{take-suc-set, get_or-append_seam}
use Rattle.text_content.specs.Value.{Values, Fields, no_fields, array, object}
use Rattle.text_view.specs.Place.{ValueAt}
use Rattle.text_view.specs.Cursor.{SomeObject, SomeMembers, MembersLeft, NextMember}
use Rattle.text_view.specs.declared.Members.{Members}
use Rattle.text_view.proofs.ByKind.{one_value}
use Rattle.reference.specs.References.{Layer, layer, no_layer}
use Rattle.manifest_fields.specs.Accessors.{text_of, texts}
use Rattle.manifest_entries.specs.Entries.{all_pass, count}
use Rattle.manifest_values.specs.Values.{entries}
use Rattle.manifest_fields.specs.FieldTests.{count_fields, every_member, names_pass}
use Rattle.manifest_entries.specs.declared.entry.Entry.TheVariants.{Text}
use Rattle.manifest_entries.proofs.Counting.{one_array}
use Rattle.manifest_fields.proofs.Finding.{one_object}
use Rattle.manifest_fields.proofs.Ruling.{its_entries}
use Rattle.manifest_repeat.specs.Names.{NamesAt, no_names, name_at, AddsNames}
use Rattle.manifest_view.proofs.Listing.{size, listed_texts}
use Rattle.manifest_names.proofs.Nexts.{NextAliases, next_aliases, next_collectable}
use Rattle.manifest.specs.Manifest.{Alias, aliases_to, aliases_of}
use Rattle.manifest.specs.Names.{keys_of, objects}
use Rattle.manifest_objects.specs.Objects.{Listed, none_listed, listed_too}
use Rattle.manifest_objects.specs.Walks.{Listable, AddsListed, ListableGroup}

replicate_more : (k o : ℕ) → replicate k o ++ (o ∷ []) ≡ replicate (suc k) o
replicate_more zero o = refl
replicate_more (suc k) o = ap (λ (os : List ℕ). o ∷ os) (replicate_more k o)

-- Where a number was written from position n to position i, and it is written at position i, it was written from n to i + 1.
pub owner_written : (owners₀ owners : List ℕ) (n i o : ℕ) → n ≤ i → i < length owners → take i owners ≡ take n owners₀ ++ replicate (i - n) o
    → take (i + 1) (set owners i o) ≡ take n owners₀ ++ replicate (i + 1 - n) o
owner_written owners₀ owners n i o h f e =
    let k : suc (i - n) ≡ i + 1 - n = omega arith in
    ap (λ (j : ℕ). take j (set owners i o)) (add-one i)
    ∙ take-suc-set owners i o f
    ∙ ap (λ (l : List ℕ). l ++ (o ∷ [])) e
    ∙ append_assoc (take n owners₀) (replicate (i - n) o) (o ∷ [])
    ∙ ap (λ (l : List ℕ). take n owners₀ ++ l) (replicate_more (i - n) o ∙ ap (λ (j : ℕ). replicate j o) k)

-- the names of aliases
abbrev names_in : List Alias → List (List ℕ)
names_in xs = map (λ (x : Alias). x.name) xs

names_to : (l : Layer) (ns : List (List ℕ)) → names_in (aliases_to l ns) ≡ ns
unfolding aliases_to
names_to l [] = refl
names_to l (n ∷ ns) = ap (λ (ms : List (List ℕ)). n ∷ ms) (names_to l ns)

names_more : (xs : List Alias) (l : Layer) (ns : List (List ℕ)) → names_in (xs ++ aliases_to l ns) ≡ names_in xs ++ ns
names_more [] l ns = names_to l ns
names_more (x ∷ xs) l ns = ap (λ (ms : List (List ℕ)). x.name ∷ ms) (names_more xs l ns)

-- the objects of the aliases xs have the numbers os
data Owned (s : List ℕ) : List ℕ → List Alias → Type 0 where
  none_owned : Owned s [] []
  owned_too : {o : ℕ} {os : List ℕ} {x : Alias} {xs : List Alias}
      → o < length (objects s) → get_or (objects s) o no_layer ≡ x.object → Owned s os xs → Owned s (o ∷ os) (x ∷ xs)

-- what is listed is two lists: the names at their positions, and the numbers of the objects
listed_names : {s ks os : List ℕ} {xs : List Alias} → Listed s ks os xs → NamesAt s ks (names_in xs)
listed_names none_listed = no_names
listed_names (listed_too h n) = name_at h.name (listed_names n)

listed_owners : {s ks os : List ℕ} {xs : List Alias} → Listed s ks os xs → Owned s os xs
listed_owners none_listed = none_owned
listed_owners (listed_too h n) = owned_too h.within h.object (listed_owners n)

both_listed : {s ks os : List ℕ} {xs : List Alias} → Owned s os xs → NamesAt s ks (names_in xs) → Listed s ks os xs
both_listed none_owned no_names = none_listed
both_listed (owned_too h g r) (name_at n m) = listed_too (record { name = n; within = h; object = g }) (both_listed r m)

owned_append : {s os ps : List ℕ} {xs ys : List Alias} → Owned s os xs → Owned s ps ys → Owned s (os ++ ps) (xs ++ ys)
owned_append none_owned m = m
owned_append (owned_too h g r) m = owned_too h g (owned_append r m)

owned_all : (s : List ℕ) (o : ℕ) (l : Layer) → o < length (objects s) → get_or (objects s) o no_layer ≡ l → (ns : List (List ℕ))
    → Owned s (replicate (length ns) o) (aliases_to l ns)
unfolding aliases_to
owned_all s o l h g [] = none_owned
owned_all s o l h g (n ∷ ns) = owned_too h g (owned_all s o l h g ns)

-- Where the strings of an array were collected behind the first n names, and the number o was written for each of them, its aliases were added.
pub adds_listed : (s : List ℕ) (at depth o : ℕ) (names₀ owners₀ : List ℕ) (n : ℕ) → Listable s at depth o names₀ owners₀ n → (names owners : List ℕ) (r : ℕ)
    → ((vs : Values) → ValueAt s at depth (array vs) → AddsNames s vs names₀ n names r) → take r owners ≡ take n owners₀ ++ replicate (r - n) o
    → (vs : Values) → ValueAt s at depth (array vs) → AddsListed s o vs names₀ owners₀ n names owners r
adds_listed s at depth o names₀ owners₀ n a names owners r f e vs v =
    let same_values = one_array s at depth a.list.values vs a.list.here v in
    let strings = subst (λ (ws : Values). all_pass Text true ws ≡ true) same_values a.list.strings in
    let counted : length (texts vs) ≡ count vs = size Text text_of texts listed_texts true vs strings in
    let k : r - n ≡ length (texts vs) = omega (arith, (f vs v).0) in (
      (f vs v).0,
      λ l xs h g m. subst (λ (os : List ℕ). Listed s (take r names) os (xs ++ aliases_to l (texts vs)))
          (sym (e ∙ ap (λ (j : ℕ). take n owners₀ ++ replicate j o) k))
          (both_listed (owned_append (listed_owners m) (owned_all s o l h g (texts vs)))
          (subst (NamesAt s (take r names)) (sym (names_more xs l (texts vs))) ((f vs v).1 (names_in xs) (listed_names m)))),
    )

-- Of the group at position `at`, whose keys are the objects, n aliases were listed; `o` members were passed, and the others stand before the cursor.
pub record Numbered (s : List ℕ) (at depth : ℕ) (names₀ owners₀ names owners : List ℕ) (left : Members) (n o : ℕ) : Type 0 where
  pub others : Fields
  pub here : MembersLeft s left others
  pub strings : every_member names_pass others ≡ true
  pub space : n + 64 * count_fields others ≤ 4096
  pub few : o + count_fields others ≤ 64
  pub size : length names ≡ length names₀
  pub enough : 4096 ≤ length names₀
  pub owner_size : length owners ≡ length owners₀
  pub owner_enough : 4096 ≤ length owners₀
  pub short : length s ≤ 65536
  pub passed : List Layer
  pub number : length passed ≡ o
  pub keys : objects s ≡ passed ++ keys_of others
  pub done : List Alias
  pub listed : Listed s (take n names) (take n owners) done
  pub kept : (fs : Fields) → ValueAt s at depth (object fs) → done ++ aliases_of others ≡ aliases_of fs

module _ (s : List ℕ) (at depth : ℕ) (names₀ owners₀ : List ℕ) where
  -- There is a group to walk over.
  pub group_object : ListableGroup s at depth names₀ owners₀ → SomeObject s at depth
  group_object a = record { fields = a.group.fields; here = a.group.here }

  -- At the start nothing was listed.
  pub group_started : (a : ListableGroup s at depth names₀ owners₀) (left : Members) → MembersLeft s left a.group.fields
      → Numbered s at depth names₀ owners₀ names₀ owners₀ left 0 0
  group_started a left l =
      record {
        others = a.group.fields;
        here = l;
        strings = a.group.strings;
        space = omega (arith, a.group.few);
        few = omega (arith, a.group.few);
        size = refl;
        enough = a.group.space;
        owner_size = refl;
        owner_enough = a.space;
        short = a.group.short;
        passed = [];
        number = refl;
        keys = a.keys;
        done = [];
        listed = none_listed;
        kept = λ fs v. ap aliases_of (one_object s at depth a.group.fields fs a.group.here v);
      }

  module _ (names owners : List ℕ) (left : Members) (n o : ℕ) (p : Numbered s at depth names₀ owners₀ names owners left n o) where
    -- The cursor has members before it.
    pub group_left : SomeMembers s left
    group_left = record { fields = p.others; left = p.here }

    -- There are at most 64 times 64 aliases.
    pub group_within : n ≤ 4096
    group_within = omega (arith, p.space)

    -- Where no member is left, all were listed.
    pub group_finished : p.others ≡ no_fields → (fs : Fields) → ValueAt s at depth (object fs) → Listed s (take n names) (take n owners) (aliases_of fs)
    unfolding aliases_of
    group_finished e fs v =
        subst (Listed s (take n names) (take n owners))
        (sym (append-nil p.done) ∙ ap (λ (gs : Fields). p.done ++ aliases_of gs) (sym e) ∙ p.kept fs v)
        p.listed

    -- the next member
    module _ (k q : ℕ) (rest : Members) (x : NextMember s left p.others k q rest) where
      aliases : NextAliases s p.others x.others k q left.depth
      aliases = next_aliases s left p.others p.strings k q rest x

      abbrev values : Values
      values = aliases.list.values

      -- The number of an object is below 64.
      pub next_number : o < 64
      next_number = omega (arith, p.few, aliases.counted)

      -- The aliases of the member can be added.
      pub listable : Listable s q left.depth o names owners n
      listable =
          let l = next_collectable aliases names n p.space (omega (arith, p.size, p.enough)) p.short in
          let e = one_array s q left.depth l.values values l.here aliases.list.here in
          record { list = l; space = omega (arith, ap count e, aliases.few, aliases.counted, p.space, p.owner_size, p.owner_enough); small = next_number }

      -- the key of the member is the object with the number o
      keys_split : objects s ≡ p.passed ++ (layer x.key ∷ keys_of x.others)
      unfolding keys_of
      keys_split = p.keys ∙ ap (λ (fs : Fields). p.passed ++ keys_of fs) x.split

      object_within : o < length (objects s)
      object_within = omega (arith, ap length keys_split, length-append p.passed (layer x.key ∷ keys_of x.others), p.number)

      object_is : get_or (objects s) o no_layer ≡ layer x.key
      object_is =
          ap (λ (l : List Layer). get_or l o no_layer) keys_split
          ∙ ap (λ (j : ℕ). get_or (p.passed ++ (layer x.key ∷ keys_of x.others)) j no_layer) (sym p.number)
          ∙ get_or-append_seam p.passed (layer x.key) (keys_of x.others) no_layer

      -- its aliases come first
      aliases_split : aliases_of p.others ≡ aliases_to (layer x.key) (texts values) ++ aliases_of x.others
      unfolding aliases_of
      aliases_split =
          let e = one_value s q left.depth x.first (array values) x.here aliases.list.here in
          ap aliases_of x.split
          ∙ ap (λ (vs : Values). aliases_to (layer x.key) (texts vs) ++ aliases_of x.others) (ap entries e ∙ its_entries values)

      -- With them added the walk goes on.
      pub group_goes_on : (names₁ owners₁ : List ℕ) (r : ℕ) → length names₁ ≡ length names → length owners₁ ≡ length owners
          → ((vs : Values) → ValueAt s q left.depth (array vs) → AddsListed s o vs names owners n names₁ owners₁ r)
          → Numbered s at depth names₀ owners₀ names₁ owners₁ rest r (o + 1)
      group_goes_on names₁ owners₁ r l m f =
          let a = f values aliases.list.here in
          let under = aliases_to (layer x.key) (texts values) in
          record {
            others = x.others;
            here = x.left;
            strings = aliases.strings;
            space = omega (arith, a.0, aliases.few, aliases.counted, p.space);
            few = omega (arith, p.few, aliases.counted);
            size = l ∙ p.size;
            enough = p.enough;
            owner_size = m ∙ p.owner_size;
            owner_enough = p.owner_enough;
            short = p.short;
            passed = p.passed ++ (layer x.key ∷ []);
            number = omega (arith, length-append p.passed (layer x.key ∷ []), p.number);
            keys = keys_split ∙ sym (append_assoc p.passed (layer x.key ∷ []) (keys_of x.others));
            done = p.done ++ under;
            listed = a.1 (layer x.key) p.done object_within object_is p.listed;
            kept = λ fs v.
                append_assoc p.done under (aliases_of x.others) ∙ ap (λ (k : List Alias). p.done ++ k) (sym aliases_split) ∙ p.kept fs v;
          }
