-- Names under different keys: when there is none, and what one position of a name says of all. Assumes nothing.
use Prim.Native.Nat.{ℕ, ◌+◌, ◌<◌}
use mathlib.Core.Path.{◌≡◌, refl, sym, ap, subst, ◌∙◌}
use mathlib.Core.List.{List, [], ◌∷◌, ◌++◌}
use mathlib.Core.Bool.{Bool, true, false, not, ◌||◌}
use native.Mathlib.Omega.{arith}
use lib.ListN.{length, get_or}
use Rattle.laws.specs.Order.{same}
use Rattle.laws.proofs.Order.{by_test, false_true, same_refl, same_eq, same_sym}
use Rattle.text_content.specs.Value.{Fields, no_fields, field}
use Rattle.text_strings.specs.InString.{Inside, content_from, key_le}
use Rattle.text_strings.proofs.Contents.{content_from_is}
use Rattle.text_strings.proofs.Cursors.{inside_within}
use Rattle.reference.specs.Matches.{is_one_of}
use Rattle.manifest_fields.specs.Accessors.{texts, names_of}
use Rattle.manifest_values.specs.Values.{entries}
use Rattle.manifest_repeat.specs.Names.{NamesAt, no_names, name_at, SortedNames}
use Rattle.manifest_repeat.specs.Repeated.{repeated}
use Rattle.laws.specs.Any.{any_of}
use Rattle.manifest_heads.specs.Contents.{Named, named_under, named_in, is_elsewhere, stands_elsewhere, conflict}
use Rattle.manifest_heads.specs.Placed.{Placed, no_place, placed, KeyedAt, SomeNames, SortedContents, SomeContents}
use Rattle.manifest_heads.specs.Searches.{Stands}
use Rattle.laws.proofs.Any.{any_both, or_none}
use Rattle.manifest_heads.proofs.Any.{any_at, both_none, Reordered, sort_placed, placed_get}

-- the names alone
unfoldable pub names_alone : List Named → List (List ℕ)
names_alone [] = []
names_alone (a ∷ xs) = a.name ∷ names_alone xs

alone_both : (xs ys : List Named) → names_alone (xs ++ ys) ≡ names_alone xs ++ names_alone ys
unfolding names_alone
alone_both [] ys = refl
alone_both (a ∷ xs) ys = ap (λ (ns : List (List ℕ)). a.name ∷ ns) (alone_both xs ys)

alone_under : (k : List ℕ) (ns : List (List ℕ)) → names_alone (named_under k ns) ≡ ns
unfolding names_alone named_under
alone_under k [] = refl
alone_under k (n ∷ ns) = ap (λ (l : List (List ℕ)). n ∷ l) (alone_under k ns)

alone_in : (fs : Fields) → names_alone (named_in fs) ≡ names_of fs
unfolding names_alone named_in names_of
alone_in no_fields = refl
alone_in (field k v fs) =
    alone_both (named_under k (texts (entries v))) (named_in fs)
    ∙ ap (λ (l : List (List ℕ)). l ++ names_alone (named_in fs)) (alone_under k (texts (entries v)))
    ∙ ap (λ (l : List (List ℕ)). texts (entries v) ++ l) (alone_in fs)

one_alone : (n : List ℕ) (xs : List Named) → is_one_of n (names_alone xs) ≡ any_of (λ (a : Named). same n a.name) xs
unfolding is_one_of names_alone any_of
one_alone n [] = refl
one_alone n (a ∷ xs) = ap (λ (b : Bool). same n a.name || b) (one_alone n xs)

module _ (n k : List ℕ) (a : Named) where
  other_name : same n a.name ≡ false → is_elsewhere n k a ≡ false
  unfolding is_elsewhere
  other_name e = rw (e, is_elsewhere)

  other_key : same n a.name ≡ true → same k a.key ≡ false → is_elsewhere n k a ≡ true
  unfolding is_elsewhere
  other_key e f = rw (e, is_elsewhere) (rw f)

  same_key : same k a.key ≡ true → is_elsewhere n k a ≡ false
  unfolding is_elsewhere
  same_key f = by_test (same n a.name) (λ e. rw (e, is_elsewhere) (rw f)) (λ e. rw (e, is_elsewhere))

  -- the same name that stands nowhere else stands under that key
  pub under_key : n ≡ a.name → is_elsewhere n k a ≡ false → k ≡ a.key
  under_key e f =
      by_test (same k a.key) (λ g. same_eq k a.key g) (λ g. false_true (sym f ∙ other_key (ap (same n) (sym e) ∙ same_refl n) g))

-- a name that is none of them does not stand under another key
pub unnamed : (n k : List ℕ) (xs : List Named) → is_one_of n (names_alone xs) ≡ false → stands_elsewhere n k xs ≡ false
unfolding stands_elsewhere
unnamed n k xs e = let f = sym (one_alone n xs) ∙ e in both_none _ _ _ xs (λ a g h. other_name n k a g) f f

-- where no alias stands twice, no name stands under two keys
once_alone : (xs : List Named) → repeated (names_alone xs) ≡ false → conflict xs xs ≡ false
unfolding repeated names_alone conflict stands_elsewhere any_of
once_alone [] e = refl
once_alone (a ∷ xs) e = go (once_alone xs) (or_none (is_one_of a.name (names_alone xs)) (repeated (names_alone xs)) e)
  where
    go : (repeated (names_alone xs) ≡ false → conflict xs xs ≡ false)
        → (is_one_of a.name (names_alone xs) ≡ false) × (repeated (names_alone xs) ≡ false) → conflict (a ∷ xs) (a ∷ xs) ≡ false
    go ih f =
        rw (same_key a.name a.key a (same_refl a.key), unnamed a.name a.key xs f.0)
        (both_none _ _ (λ (b : Named). is_elsewhere b.name b.key a || stands_elsewhere b.name b.key xs) xs
        (λ b g h. rw (other_name b.name b.key a (same_sym b.name a.name ∙ g)) h)
        (sym (one_alone a.name xs) ∙ f.0)
        (ih f.1))

-- what question 9 gives
pub once_settled : (fs : Fields) → repeated (names_of fs) ≡ false → conflict (named_in fs) (named_in fs) ≡ false
once_settled fs e = once_alone (named_in fs) (ap repeated (alone_in fs) ∙ e)

-- sorted aliases: their names, and what stands at a position
names_alone_at : {s keys ks : List ℕ} {xs : List Named} → Placed (KeyedAt s keys) ks xs → NamesAt s ks (names_alone xs)
unfolding names_alone
names_alone_at no_place = no_names
names_alone_at (placed h r) = name_at h.name (names_alone_at r)

module _ {s keys ks : List ℕ} {xs : List Named} (m : SortedContents s xs keys ks) where
  -- The sorted positions of aliases are those of the aliases' names, sorted by content.
  pub contents_names : SortedNames s (names_alone xs) ks
  contents_names = record { places = m.places; here = names_alone_at m.here; sorted = m.sorted }

  contents_items : Reordered (KeyedAt s keys) ks xs
  contents_items = rw m.sorted (sort_placed (key_le s) m.here)

  -- a name that was found
  module _ (n : List ℕ) (p : ℕ) (w : Stands s ks n p) where
    its_alias : (a : Named) × KeyedAt s keys p a
    its_alias =
        let g = placed_get contents_items.here w.index w.within in
        (g.0, subst (λ (l : ℕ). KeyedAt s keys l g.0) w.is g.1)

    -- The position of the name is an index of `keys`.
    pub place_within : p < length keys
    place_within = omega (arith, inside_within s (p + 1) (record { bytes = n; here = w.name }), m.long)

    -- The position after the one that `keys` has for the name stands in a string.
    pub its_key : Inside s (get_or keys p 0 + 1)
    its_key = record { bytes = its_alias.0.key; here = its_alias.1.key }

    abbrev own : List ℕ
    own = content_from s (get_or keys p 0 + 1)

    is_alias : (a : Named) → KeyedAt s keys (get_or ks w.index 0) a → (n ≡ a.name) × (own ≡ a.key)
    is_alias a h =
        let g = subst (λ (l : ℕ). KeyedAt s keys l a) w.is h in
        (sym (content_from_is s (p + 1) n w.name) ∙ content_from_is s (p + 1) a.name g.name, content_from_is s (get_or keys p 0 + 1) a.key g.key)

    -- it stands under one key, and elsewhere where that is another
    settled_own : stands_elsewhere n own xs ≡ false
    unfolding conflict
    settled_own =
        by_test (stands_elsewhere n own xs)
        (λ e. false_true
        (sym m.settled ∙ sym (contents_items.any (λ (a : Named). stands_elsewhere a.name a.key xs))
        ∙ any_at (λ (a : Named). stands_elsewhere a.name a.key xs) contents_items.here w.index w.within
        (λ a h. let g = is_alias a h in rw (← g.0, ← g.1) e)))
        (λ e. e)

    -- The name stands under another key than `k` exactly where `k` is not the key that `keys` has for the name.
    pub elsewhere : (k : List ℕ) → not (same k own) ≡ stands_elsewhere n k xs
    unfolding stands_elsewhere
    elsewhere k =
        by_test (same k own)
        (λ e. let f = same_eq k own e in rw e (sym (ap (λ (l : List ℕ). stands_elsewhere n l xs) f ∙ settled_own)))
        (λ e. rw e
        (sym (sym (contents_items.any (is_elsewhere n k))
        ∙ any_at (is_elsewhere n k) contents_items.here w.index w.within
        (λ a h. let g = is_alias a h in other_key n k a (ap (same n) (sym g.0) ∙ same_refl n) (ap (same k) (sym g.1) ∙ e)))))

-- Positions of some sorted aliases are positions of some sorted names.
pub some_names : {s keys ks : List ℕ} → SomeContents s keys ks → SomeNames s ks
some_names m = record { names = names_alone m.aliases; sorted = contents_names m.sorted }

-- an alias among others, none of which has its name under another key
pub none_elsewhere : (xs : List Named) (a : Named) (ys : List Named) → conflict (xs ++ (a ∷ ys)) (xs ++ (a ∷ ys)) ≡ false
    → stands_elsewhere a.name a.key xs ≡ false
unfolding conflict stands_elsewhere any_of
none_elsewhere xs a ys e =
    let here = (or_none (any_of p xs) (any_of p (a ∷ ys)) (sym (any_both p xs (a ∷ ys)) ∙ e)).1 in
    (or_none (any_of q xs) (any_of q (a ∷ ys)) (sym (any_both q xs (a ∷ ys)) ∙ (or_none (p a) (any_of p ys) here).0)).0
  where
    p : Named → Bool
    p b = stands_elsewhere b.name b.key (xs ++ (a ∷ ys))

    q : Named → Bool
    q = is_elsewhere a.name a.key
