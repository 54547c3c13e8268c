-- The marks of references and the positions of the names of aliases. Assumes nothing.
use Rattle.std.specs.Prelude.{Some, None}
use Prim.Native.Nat.{ℕ, ◌+◌, ◌<◌, ◌≤◌}
use mathlib.Core.Path.{◌≡◌, refl, sym, ap, subst, ◌∙◌}
use mathlib.Core.List.{List, []}
use native.Mathlib.Omega.{arith}
use lib.Dec.{eqb}
use lib.ListN.{length, get_or, set, length-set}
use lib.Seq.{get_or-set_same, get_or-set_other}
use borrow.Author.Tests.{eqb-true, eqb-false}
use Rattle.laws.proofs.Order.{by_test}
use Rattle.reference_digests.specs.declared.algorithm.Algorithm.{Algorithm}
use Rattle.reference.specs.References.{Layer, layer_digest, layer_alias, no_layer}
use Rattle.reference.specs.declared.layer.Layer.TheVariants.{Digest, Alias as ReadAlias}
use Rattle.manifest.specs.Opened.{Denotes}
use Rattle.manifest_objects.proofs.Naming.{name_kept, number_kept, alias_named, digest_denoted, bad_denoted}
use Rattle.lookup_paths.specs.Follow.{object_in}
use Rattle.lookup_links.specs.Links.{AliasLink, undefined, Link, Links}
use Rattle.lookup_index.specs.Table.{mark_of, NamedAt, AllNamed, Marks}

-- a name that begins where it began
named_kept : (b at later : List ℕ) (e : ℕ) (l : Layer) → get_or later e 0 ≡ get_or at e 0 → length later ≡ length at → NamedAt b at e l → NamedAt b later e l
named_kept b at later e (layer_alias a s n) p z x = (number_kept b at later e p z x.0, name_kept b at later e p ∙ x.1)
named_kept b at later e (layer_digest a d) p z x = x
named_kept b at later e no_layer p z x = x

module _ (b : List ℕ) (e : ℕ) (l : Layer) (at next : List ℕ) where
  marks : (m : Layer) → l ≡ m → (later : List ℕ) → length later ≡ length at → NamedAt b later e m
      → ((i : ℕ) → (i ≡ e → ⊥) → get_or later i 0 ≡ get_or at i 0) → Marks b e l at next later (set next e (mark_of m))
  marks m p later z x o =
      record {
        size = z;
        mark = ap (λ (k : Layer). set next e (mark_of k)) (sym p);
        named = subst (NamedAt b later e) (sym p) x;
        others = o;
      }

  -- A digest is marked as one.
  pub marks_digest : (a : Algorithm) (p : ℕ) → Denotes b (Some (Digest a p)) l → Marks b e l at next at (set next e 65535)
  unfolding mark_of
  marks_digest a p d = let w = digest_denoted b l a p d in marks (layer_digest a w.0) w.1 at refl tt (λ i h. refl)

  -- What is no reference is marked so.
  pub marks_bad : Denotes b None l → Marks b e l at next at (set next e 65533)
  unfolding mark_of
  marks_bad d = marks no_layer (bad_denoted b l d) at refl tt (λ i h. refl)

  -- An alias is marked as not defined, and its name is placed.
  pub marks_alias : (a : Algorithm) (g q : ℕ) → e < length at → Denotes b (Some (ReadAlias a g q)) l → Marks b e l at next (set at e q) (set next e 65534)
  unfolding mark_of
  marks_alias a g q h d =
      let w = alias_named b l (set at e q) e q a g (omega (arith, length-set at e q)) (get_or-set_same at e q 0 h) d in
      marks (layer_alias w.algorithm w.signer _) w.is (set at e q) (length-set at e q) (w.number, refl) (λ i n. get_or-set_other at e i q 0 n)

-- the first n references are marked
pub record MarkedTo (b : List ℕ) (refs : List Layer) (n : ℕ) (at next : List ℕ) : Type 0 where
  pub named : (i : ℕ) → i < n → NamedAt b at i (get_or refs i no_layer)
  pub marked : (i : ℕ) → i < n → get_or next i 0 ≡ mark_of (get_or refs i no_layer)

module _ (b : List ℕ) (refs : List Layer) (at next : List ℕ) where
  -- At first none is marked.
  pub marked_none : MarkedTo b refs 0 at next
  marked_none = record { named = λ i h. absurd (omega arith); marked = λ i h. absurd (omega arith) }

  -- One more is marked.
  pub marked_next : (e : ℕ) → MarkedTo b refs e at next → e < length next → (at₁ next₁ : List ℕ) → Marks b e (get_or refs e no_layer) at next at₁ next₁
      → MarkedTo b refs (e + 1) at₁ next₁
  marked_next e p h at₁ next₁ m =
      record {
        named = λ i l. by_test (eqb i e)
            (λ f. subst (λ (j : ℕ). NamedAt b at₁ j (get_or refs j no_layer)) (sym (eqb-true i e f)) m.named)
            (λ f. let n = eqb-false i e f in named_kept b at at₁ i (get_or refs i no_layer) (m.others i n) m.size (p.named i (omega arith)));
        marked = λ i l. by_test (eqb i e)
            (λ f. let q = eqb-true i e f in
            subst (λ (j : ℕ). get_or next₁ j 0 ≡ mark_of (get_or refs j no_layer)) (sym q)
            (ap (λ (k : List ℕ). get_or k e 0) m.mark ∙ get_or-set_same next e (mark_of (get_or refs e no_layer)) 0 h))
            (λ f. let n = eqb-false i e f in
            ap (λ (k : List ℕ). get_or k i 0) m.mark ∙ get_or-set_other next e i (mark_of (get_or refs e no_layer)) 0 n ∙ p.marked i (omega arith));
      }

  marked_link : (l : Layer) (o : ℕ) → o ≡ mark_of l → Link [] refs l o
  unfolding mark_of object_in
  marked_link (layer_digest a d) o e = e
  marked_link (layer_alias a s n) o e =
      subst (AliasLink [] refs (record { algorithm = a; signer = s; name = n })) (sym e) (undefined refl)
  marked_link no_layer o e = e

  module _ (n : ℕ) (all : length refs ≡ n) (p : MarkedTo b refs n at next) where
    -- Where all are marked they are linked as if nothing were defined.
    pub marked_links : n ≤ length next → n ≤ 4160 → Links [] refs next
    marked_links h f =
        record {
          space = omega arith;
          few = omega arith;
          each = λ e l. marked_link (get_or refs e no_layer) (get_or next e 0) (p.marked e (omega arith));
        }

    -- The names of all aliases are placed.
    pub marked_named : AllNamed b refs at
    marked_named = record { each = λ e l. p.named e (omega arith) }
