-- Following the links of references is following their aliases through the room. Assumes nothing.
use Rattle.std.specs.Prelude.{None, Some}
use Prim.Native.Nat.{ℕ, suc, ◌+◌, ◌-◌, ◌<◌}
use mathlib.Core.Path.{◌≡◌, refl, sym, ap, ◌∙◌}
use mathlib.Core.Bool.{false}
use mathlib.Core.List.{List}
use native.Mathlib.Omega.{arith}
use lib.ListN.{length, get_or}
use Rattle.reference_digests.specs.declared.algorithm.Algorithm.{Algorithm}
use Rattle.reference.specs.References.{Layer, layer_digest, layer_alias, no_layer}
use Rattle.store_record.specs.Image.{Image}
use Rattle.store_keys.specs.Keys.{Key, LayerKey}
use Rattle.store_keys.specs.Clash.{any_clash}
use Rattle.lookup_paths.specs.Follow.{keys_in, object_in, aliased_object, undefined, endless, follow, object_count, end_of}
use Rattle.lookup_paths.proofs.Objects.{key_defines, object_exactly}
use Rattle.lookup_paths.proofs.Steps.{digest_met, bad_undefined, follow_on, follow_none, alias_endless, end_on}
use Rattle.lookup_links.specs.Links.{digest_mark, undefined_mark, bad_mark, LinkedTo, AliasLink, undefined as not_defined, linked, Link, Links}
use Rattle.lookup_links.specs.Following.{Followable, MetAt}

module _ (ks : List LayerKey) (refs : List Layer) where
  -- a number that is no mark is that of the object of an alias
  record OfAlias (l : Layer) (o : ℕ) : Type 0 where
    algorithm : Algorithm
    signer : List ℕ
    name : List ℕ
    is : l ≡ layer_alias algorithm signer name
    link : LinkedTo ks refs (record { algorithm = algorithm; signer = signer; name = name }) o

  abbrev NoMark : ℕ → Type 0
  NoMark o = (o ≡ digest_mark → ⊥) × (o ≡ undefined_mark → ⊥) × (o ≡ bad_mark → ⊥)

  alias_linked : {k : Key} {o : ℕ} → AliasLink ks refs k o → NoMark o → LinkedTo ks refs k o
  alias_linked (not_defined e) m = absurd (m.1 refl)
  alias_linked (linked w) m = w

  of_alias : (l : Layer) (o : ℕ) → Link ks refs l o → NoMark o → OfAlias l o
  of_alias (layer_digest a d) o p m = absurd (m.0 p)
  of_alias no_layer o p m = absurd (m.2 p)
  of_alias (layer_alias a s n) o p m = record { algorithm = a; signer = s; name = n; is = refl; link = alias_linked p m }

  -- the mark of a digest
  alias_no_digest : {C : Type 0} {k : Key} {o : ℕ} → AliasLink ks refs k o → o ≡ digest_mark → C
  alias_no_digest (not_defined e) f = absurd (omega arith)
  alias_no_digest (linked w) f = absurd (omega (arith, w.small))

  is_digest : (l : Layer) (o : ℕ) → Link ks refs l o → o ≡ digest_mark → (a : Algorithm) × (d : List ℕ) × (l ≡ layer_digest a d)
  is_digest (layer_digest a d) o p e = (a, d, refl)
  is_digest no_layer o p e = absurd (omega arith)
  is_digest (layer_alias a s n) o p e = alias_no_digest p e

  -- the mark of an alias that is not defined
  alias_undefined : {k : Key} {o : ℕ} → AliasLink ks refs k o → o ≡ undefined_mark → object_in k ks ≡ None
  alias_undefined (not_defined e) f = e
  alias_undefined (linked w) f = absurd (omega (arith, w.small))

  -- the mark of what is no reference
  alias_not_bad : {C : Type 0} {k : Key} {o : ℕ} → AliasLink ks refs k o → o ≡ bad_mark → C
  alias_not_bad (not_defined e) f = absurd (omega arith)
  alias_not_bad (linked w) f = absurd (omega (arith, w.small))

  is_bad : (l : Layer) (o : ℕ) → Link ks refs l o → o ≡ bad_mark → l ≡ no_layer
  is_bad (layer_digest a d) o p e = absurd (omega arith)
  is_bad no_layer o p e = refl
  is_bad (layer_alias a s n) o p e = alias_not_bad p e

-- The number that comes after that of a reference, where it is no mark, is that of a reference again.
pub next_followable : (next : List ℕ) (e objects : ℕ) → Followable next e objects → (get_or next e 0 ≡ 65535 → ⊥) → (get_or next e 0 ≡ 65534 → ⊥)
    → (get_or next e 0 ≡ 65533 → ⊥) → Followable next (get_or next e 0) objects
next_followable next e objects x d u m =
    record {
      keys = x.keys;
      refs = x.refs;
      links = x.links;
      within = (of_alias x.keys x.refs (get_or x.refs e no_layer) (get_or next e 0) (x.links.each e x.within) (d, u, m)).link.within;
      few = x.few;
    }

-- the path from reference e has come to reference `at`, with `left` steps left
pub record Comes (room : List Image) (refs : List Layer) (e at left : ℕ) : Type 0 where
  pub within : at < length refs
  pub steps : follow left room (get_or refs at no_layer) ≡ end_of room (get_or refs e no_layer)
  pub end : end_of room (get_or refs at no_layer) ≡ end_of room (get_or refs e no_layer)

-- It starts at e.
pub comes_first : (room : List Image) (refs : List Layer) (e objects : ℕ) → object_count room ≡ objects → e < length refs → Comes room refs e e (objects + 1)
unfolding end_of
comes_first room refs e objects c h =
    record {
      within = h;
      steps = let q : objects + 1 ≡ suc (object_count room) = omega arith in ap (λ (n : ℕ). follow n room (get_or refs e no_layer)) q;
      end = refl;
    }

module _ (room : List Image) (refs : List Layer) (next : List ℕ) (x : Links (keys_in room) refs next) (e at left : ℕ) (p : Comes room refs e at left) where
  abbrev here : Layer
  here = get_or refs at no_layer

  its_link : Link (keys_in room) refs here (get_or next at 0)
  its_link = x.each at p.within

  -- It has met a digest.
  pub comes_digest : get_or next at 0 ≡ 65535 → MetAt refs (end_of room (get_or refs e no_layer)) at
  unfolding end_of
  comes_digest m =
      let w = is_digest (keys_in room) refs here (get_or next at 0) its_link m in
      record {
        algorithm = w.0;
        digest = w.1;
        within = p.within;
        is = w.2;
        end_is = sym p.end ∙ ap (end_of room) w.2 ∙ digest_met room (suc (object_count room)) w.0 w.1;
      }

  lost_here : (l : Layer) (o : ℕ) → Link (keys_in room) refs l o → o ≡ undefined_mark → end_of room l ≡ undefined
  unfolding end_of aliased_object
  lost_here (layer_digest a d) o k m = absurd (omega arith)
  lost_here no_layer o k m = absurd (omega arith)
  lost_here (layer_alias a s n) o k m = follow_none room (object_count room) a s n (alias_undefined (keys_in room) refs k m)

  -- It has come to an alias that is not defined.
  pub comes_undefined : get_or next at 0 ≡ 65534 → end_of room (get_or refs e no_layer) ≡ undefined
  comes_undefined m = sym p.end ∙ lost_here here (get_or next at 0) its_link m

  -- It has come to what is no reference.
  pub comes_bad : get_or next at 0 ≡ 65533 → end_of room (get_or refs e no_layer) ≡ undefined
  unfolding end_of
  comes_bad m =
      sym p.end ∙ ap (end_of room) (is_bad (keys_in room) refs here (get_or next at 0) its_link m) ∙ bad_undefined room (suc (object_count room))

  module _ (d : get_or next at 0 ≡ 65535 → ⊥) (u : get_or next at 0 ≡ 65534 → ⊥) (m : get_or next at 0 ≡ 65533 → ⊥) where
    its_alias : OfAlias (keys_in room) refs here (get_or next at 0)
    its_alias = of_alias (keys_in room) refs here (get_or next at 0) its_link (d, u, m)

    -- It has come to an alias with no steps left.
    pub comes_again : left ≡ 0 → end_of room (get_or refs e no_layer) ≡ endless
    comes_again z =
        let w = its_alias in
        sym p.steps
        ∙ (λ i. follow (z i) room (w.is i))
        ∙ alias_endless room w.algorithm w.signer w.name

    -- It goes on to the object of an alias.
    pub comes_on : any_clash room ≡ false → (left ≡ 0 → ⊥) → Comes room refs e (get_or next at 0) (left - 1)
    comes_on c z =
        let w = its_alias in
        let k = w.link in
        let o = (object_exactly room c).1 (key_defines room k.by (record { algorithm = w.algorithm; signer = w.signer; name = w.name }) k.defined
        k.same_key) in
        let to : aliased_object room here ≡ Some (get_or refs (get_or next at 0) no_layer) = ap (aliased_object room) w.is ∙ o ∙ ap Some k.object in
        let q : suc (left - 1) ≡ left = omega arith in
        record {
          within = k.within;
          steps = sym (follow_on room (left - 1) here (get_or refs (get_or next at 0) no_layer) to) ∙ ap (λ (n : ℕ). follow n room here) q ∙ p.steps;
          end = sym (end_on room here (get_or refs (get_or next at 0) no_layer) to) ∙ p.end;
        }
