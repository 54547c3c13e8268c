-- A key is linked: the aliases of the table that have it get the number of its object. Assumes nothing.
use Rattle.std.specs.Prelude.{None}
use Prim.Native.Nat.{ℕ, ◌+◌, ◌-◌, ◌<◌, ◌≤◌}
use mathlib.Core.Path.{◌≡◌, refl, sym, ap, subst, ◌∙◌}
use mathlib.Core.List.Memᴰ
use mathlib.Core.List.{List, [], ◌∷◌, ◌++◌}
use mathlib.Core.Bool.{Bool, true, false, ◌&&◌, ◌||◌}
use native.Mathlib.Omega.{arith}
use native.Mathlib.Numerals.{add-one}
use lib.Dec.{eqb}
use lib.ListN.{length, take, drop, get_or, set, length-set, length-drop}
use lib.Seq.{take-suc, length-take-le, get_or-take, get_or-drop, get_or-set_same, get_or-set_other}
use borrow.Author.Tests.{eq-eqb, eqb-true, eqb-false}
use Rattle.laws.specs.Any.{any_of}
use Rattle.laws.specs.Order.{same}
use Rattle.laws.proofs.Any.{any_both}
use Rattle.laws.proofs.Order.{by_test}
use Rattle.reference_digests.specs.Algorithms.{byte_of}
use Rattle.reference_digests.specs.declared.algorithm.Algorithm.{Algorithm}
use Rattle.reference.specs.References.{Layer, layer_digest, layer_alias, no_layer}
use Rattle.manifest_index.specs.Index.{name_at}
use Rattle.manifest_index.specs.declared.Range.{Range}
use Rattle.manifest_objects.specs.Objects.{is_alias_of, Named}
use Rattle.manifest_objects.proofs.Naming.{named_any}
use Rattle.store_keys.specs.Keys.{Key, LayerKey}
use Rattle.store_keys.specs.Clash.{is_same_key}
use Rattle.lookup_paths.specs.Follow.{object_in}
use Rattle.lookup_paths.proofs.Objects.{none_some}
use Rattle.lookup_links.specs.Links.{AliasLink, undefined, linked, Link, Links}
use Rattle.lookup_index.specs.Table.{is_alias, NamedAt, Table}
use Rattle.lookup_table.specs.Linking.{layer_key, link_to, Relinked}
use Rattle.manifest_objects.proofs.Standing.{stand_length}

-- At first nothing is linked.
pub relinked_none : (a : Algorithm) (s : List ℕ) (refs : List Layer) (o : ℕ) (before : List ℕ) → Relinked a s refs o [] before before
unfolding link_to any_of
relinked_none a s refs o before = record { size = refl; each = λ e h. refl }

module _ (a : Algorithm) (s : List ℕ) (refs : List Layer) (o : ℕ) (chosen before : List ℕ) where
  module _ (i : ℕ) (l : i < length chosen) (mid : List ℕ) (p : Relinked a s refs o (take i chosen) before mid) where
    abbrev here : ℕ
    here = get_or chosen i 0

    one_more : (e : ℕ) → any_of (eqb e) (take (i + 1) chosen) ≡ (any_of (eqb e) (take i chosen) || (eqb e here || false))
    unfolding any_of
    one_more e = ap (λ (n : ℕ). any_of (eqb e) (take n chosen)) (add-one i) ∙ ap (any_of (eqb e)) (take-suc chosen i 0 l)
        ∙ any_both (eqb e) (take i chosen) (here ∷ [])

    -- another reference is chosen or not, as it was
    another : (e : ℕ) → (e ≡ here → ⊥) → any_of (eqb e) (take (i + 1) chosen) ≡ any_of (eqb e) (take i chosen)
    another e n = one_more e ∙ ap (λ (t : Bool). any_of (eqb e) (take i chosen) || (t || false)) (ne e n) ∙ or_false (any_of (eqb e) (take i chosen))
      where
        ne : (e : ℕ) → (e ≡ here → ⊥) → eqb e here ≡ false
        ne e n = by_test (eqb e here) (λ f. absurd (n (eqb-true e here f))) (λ f. f)

        or_false : (t : Bool) → (t || (false || false)) ≡ t
        or_false true = refl
        or_false false = refl

    chosen_now : any_of (eqb here) (take (i + 1) chosen) ≡ true
    chosen_now = one_more here ∙ ap (λ (t : Bool). any_of (eqb here) (take i chosen) || (t || false)) (eq-eqb here here refl)
        ∙ or_true (any_of (eqb here) (take i chosen))
      where
        or_true : (t : Bool) → (t || (true || false)) ≡ true
        or_true true = refl
        or_true false = refl

    -- The reference is linked if it is an alias of that signer,
    pub relinked_set : here < length mid → is_alias_of a s (get_or refs here no_layer) ≡ true → Relinked a s refs o (take (i + 1) chosen) before (set mid here o)
    unfolding link_to
    relinked_set h t =
        record {
          size = length-set mid here o ∙ p.size;
          each = λ e k. by_test (eqb e here)
              (λ f. subst (λ (j : ℕ). get_or (set mid here o) j 0
              ≡ link_to (any_of (eqb j) (take (i + 1) chosen) && is_alias_of a s (get_or refs j no_layer)) o (get_or before j 0))
              (sym (eqb-true e here f))
              (get_or-set_same mid here o 0 h ∙ sym (λ j. link_to (chosen_now j && t j) o (get_or before here 0))))
              (λ f. let n = eqb-false e here f in
              get_or-set_other mid here e o 0 n ∙ p.each e k
              ∙ sym (ap (λ (c : Bool). link_to (c && is_alias_of a s (get_or refs e no_layer)) o (get_or before e 0)) (another e n)));
        }

    and_none : (t u : Bool) → u ≡ false → (t && u) ≡ false
    and_none true u e = e
    and_none false u e = refl

    -- and stays as it was if not.
    pub relinked_kept : is_alias_of a s (get_or refs here no_layer) ≡ false → Relinked a s refs o (take (i + 1) chosen) before mid
    relinked_kept t =
        record {
          size = p.size;
          each = λ e k. p.each e k ∙ ap (λ (c : Bool). link_to c o (get_or before e 0)) (tests e);
        }
      where
        tests : (e : ℕ) → (any_of (eqb e) (take i chosen) && is_alias_of a s (get_or refs e no_layer))
            ≡ (any_of (eqb e) (take (i + 1) chosen) && is_alias_of a s (get_or refs e no_layer))
        tests e =
            by_test (eqb e here)
            (λ f. let u : is_alias_of a s (get_or refs e no_layer) ≡ false = ap (λ (j : ℕ). is_alias_of a s (get_or refs j no_layer)) (eqb-true e here f) ∙ t in
            and_none (any_of (eqb e) (take i chosen)) (is_alias_of a s (get_or refs e no_layer)) u
            ∙ sym (and_none (any_of (eqb e) (take (i + 1) chosen)) (is_alias_of a s (get_or refs e no_layer)) u))
            (λ f. sym (ap (λ (c : Bool). c && is_alias_of a s (get_or refs e no_layer)) (another e (eqb-false e here f))))

-- The numbers of a part of the index are those of references.
pub chosen_below : (order : List ℕ) (n from to : ℕ) → ((i : ℕ) → i < length order → get_or order i 0 < n) → from ≤ to → to ≤ length order
    → (i : ℕ) → i < length (take (to - from) (drop from order)) → get_or (take (to - from) (drop from order)) i 0 < n
chosen_below order n from to f l h i k =
    let size = length-take-le (to - from) (drop from order) (omega (arith, length-drop from order)) in
    let q : get_or (take (to - from) (drop from order)) i 0 ≡ get_or order (from + i) 0 = get_or-take (to - from) (drop from order) i 0 (omega (arith, size))
    ∙ get_or-drop from order i 0 in
    subst (λ (e : ℕ). e < n) (sym q) (f (from + i) (omega (arith, size)))

and_crossed : (x y z : Bool) → (x && (y && z)) ≡ (y && (z && x))
and_crossed true true true = refl
and_crossed true true false = refl
and_crossed true false z = refl
and_crossed false true true = refl
and_crossed false true false = refl
and_crossed false false z = refl

any_one : (q : ℕ → Bool) (e : ℕ) (xs : List ℕ) → any_of (λ (f : ℕ). q f && eqb e f) xs ≡ (q e && any_of (eqb e) xs)
unfolding any_of
any_one q e [] = None (q e)
  where
    None : (t : Bool) → false ≡ (t && false)
    None true = refl
    None false = refl
any_one q e (x ∷ xs) = go (any_one q e xs)
  where
    spread : (t u w : Bool) → ((t && u) || (t && w)) ≡ (t && (u || w))
    spread true u w = refl
    spread false u w = refl

    None : (t : Bool) → (t && false) ≡ false
    None true = refl
    None false = refl

    first : (q x && eqb e x) ≡ (q e && eqb e x)
    first =
        by_test (eqb e x)
        (λ f. ap (λ (j : ℕ). q j && eqb e x) (sym (eqb-true e x f)))
        (λ f. ap (λ (t : Bool). q x && t) f ∙ None (q x) ∙ sym (None (q e)) ∙ sym (ap (λ (t : Bool). q e && t) f))

    go : any_of (λ (f : ℕ). q f && eqb e f) xs ≡ (q e && any_of (eqb e) xs)
        → ((q x && eqb e x) || any_of (λ (f : ℕ). q f && eqb e f) xs) ≡ (q e && (eqb e x || any_of (eqb e) xs))
    go ih = (λ i. first i || ih i) ∙ spread (q e) (eqb e x) (any_of (eqb e) xs)

-- one key more
not_among : (k : Key) (ks : List LayerKey) (l : LayerKey) → object_in k ks ≡ None → is_same_key l.key k ≡ false → object_in k (ks ++ (l ∷ [])) ≡ None
unfolding object_in
not_among k [] l e f = rw (f, object_in)
not_among k (x ∷ ks) l e f = go (not_among k ks l)
  where
    go : (object_in k ks ≡ None → is_same_key l.key k ≡ false → object_in k (ks ++ (l ∷ [])) ≡ None) → object_in k (x ∷ (ks ++ (l ∷ []))) ≡ None
    go ih =
        by_test (is_same_key x.key k)
        (λ g. none_some (sym (rw (g, object_in) at e)))
        (λ g. rw (g, object_in) (ih (rw (g, object_in) at e) f))

module _ (ks : List LayerKey) (refs : List Layer) (l : LayerKey) where
  alias_kept : {k : Key} {o : ℕ} → is_same_key l.key k ≡ false → AliasLink ks refs k o → AliasLink (ks ++ (l ∷ [])) refs k o
  alias_kept {k} f (undefined e) = undefined (not_among k ks l e f)
  alias_kept f (linked w) =
      linked (record {
        within = w.within;
        small = w.small;
        by = w.by;
        defined = Memᴰ.append_left (l ∷ []) w.defined;
        same_key = w.same_key;
        object = w.object;
      })

  alias_new : (k : Key) (o : ℕ) → is_same_key l.key k ≡ true → o < length refs → length refs ≤ 4160 → l.object ≡ get_or refs o no_layer
      → AliasLink (ks ++ (l ∷ [])) refs k o
  alias_new k o e h few q =
      linked (record { within = h; small = omega arith; by = l; defined = Memᴰ.append_right ks (Memᴰ.head refl); same_key = e; object = q })

-- the numbers of the name n are linked
module _ (b keys at order : List ℕ) (refs : List Layer) (t : Table b keys at order refs) (a : Algorithm) (s n : List ℕ) (r : Range) (x : Named b at order n r)
    (o : ℕ) (h : o < length refs) (ks : List LayerKey) (before after : List ℕ) (p : Links ks refs before)
    (w : Relinked a s refs o (take (r.to - r.from) (drop r.from order)) before after) where
  abbrev chosen : List ℕ
  chosen = take (r.to - r.from) (drop r.from order)

  abbrev new : LayerKey
  new = layer_key a s n (get_or refs o no_layer)

  -- an alias is chosen by its name
  by_name : (e : ℕ) (m : List ℕ) → name_at b at e ≡ m → any_of (eqb e) order ≡ true → any_of (eqb e) chosen ≡ (same n m && true)
  by_name e m q i = named_any x (eqb e) ∙ any_one (λ (f : ℕ). same n (name_at b at f)) e order ∙ (λ j. same n (q j) && i j)

  link_after : (l : Layer) (e : ℕ) → (c d : ℕ) → c ≡ link_to (any_of (eqb e) chosen && is_alias_of a s l) o d → NamedAt b at e l
      → (is_alias l ≡ true → any_of (eqb e) order ≡ true) → Link ks refs l d → Link (ks ++ (new ∷ [])) refs l c
  unfolding is_alias_of is_alias link_to is_same_key
  link_after (layer_digest c d) e o₁ o₂ q m i k = q ∙ ap (λ (u : Bool). link_to u o o₂) (None (any_of (eqb e) chosen)) ∙ k
    where
      None : (u : Bool) → (u && false) ≡ false
      None true = refl
      None false = refl
  link_after no_layer e o₁ o₂ q m i k = q ∙ ap (λ (u : Bool). link_to u o o₂) (None (any_of (eqb e) chosen)) ∙ k
    where
      None : (u : Bool) → (u && false) ≡ false
      None true = refl
      None false = refl
  link_after (layer_alias c g m) e o₁ o₂ q y i k =
      by_test (is_same_key new.key key)
      (λ f. subst (AliasLink (ks ++ (new ∷ [])) refs key) (sym (q ∙ ap (λ (u : Bool). link_to u o o₂) (test ∙ f)))
      (alias_new ks refs new key o f h (omega (arith, t.few, stand_length t.stand)) refl))
      (λ f. subst (AliasLink (ks ++ (new ∷ [])) refs key) (sym (q ∙ ap (λ (u : Bool). link_to u o o₂) (test ∙ f)))
      (alias_kept ks refs new f k))
    where
      key : Key
      key = record { algorithm = c; signer = g; name = m }

      and_true : (u : Bool) → (u && true) ≡ u
      and_true true = refl
      and_true false = refl

      test : (any_of (eqb e) chosen && (eqb (byte_of a) (byte_of c) && same s g)) ≡ (eqb (byte_of a) (byte_of c) && (same s g && same n m))
      test =
          ap (λ (u : Bool). u && (eqb (byte_of a) (byte_of c) && same s g)) (by_name e m y.1 (i refl) ∙ and_true (same n m))
          ∙ and_crossed (same n m) (eqb (byte_of a) (byte_of c)) (same s g)

  -- The links then know that key too.
  pub key_linked : Links (ks ++ (layer_key a s n (get_or refs o no_layer) ∷ [])) refs after
  key_linked =
      record {
        space = omega (arith, w.size, p.space);
        few = p.few;
        each = λ e k. link_after (get_or refs e no_layer) e (get_or after e 0) (get_or before e 0) (w.each e k) (t.named.each e k) (t.all e k) (p.each e k);
      }
