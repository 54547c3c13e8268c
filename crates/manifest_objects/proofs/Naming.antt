-- The names of aliases in an index, by their numbers: what the crates above need of it. Assumes nothing.
use Rattle.std.specs.Prelude.{Some, None}
use Prim.Native.Nat.{ℕ, ◌+◌, ◌-◌, ◌<◌}
use mathlib.Core.Path.{◌≡◌, sym, ap, subst, ◌∙◌}
use mathlib.Core.List.{List}
use mathlib.Core.Bool.{Bool, ◌&&◌}
use native.Mathlib.Omega.{arith}
use lib.ListN.{length, take, drop, get_or}
use Rattle.laws.specs.Any.{any_of}
use Rattle.laws.specs.Order.{same}
use Rattle.text_strings.specs.InString.{InString, Inside, content_from}
use Rattle.text_strings.proofs.Contents.{content_from_is}
use Rattle.text_strings.proofs.Cursors.{inside_within}
use Rattle.text_index.specs.Index.{entry_text, Holds}
use Rattle.text_index.proofs.Lists.{filter_any}
use Rattle.text_index.proofs.Parts.{in_part}
use Rattle.reference_digests.specs.declared.algorithm.Algorithm.{Algorithm}
use Rattle.reference.specs.References.{Layer, layer_digest, layer_alias, no_layer}
use Rattle.reference.specs.declared.layer.Layer.TheVariants.{Digest, Alias as ReadAlias}
use Rattle.manifest_index.specs.Index.{name_at, NumberOf}
use Rattle.manifest.specs.Manifest.{Alias}
use Rattle.manifest.specs.Opened.{Denotes}
use Rattle.manifest_index.specs.declared.Range.{Range}
use Rattle.manifest_objects.specs.Objects.{AliasAt, NameStands, Named, AliasNamed}

-- The name of an alias of a manifest stands in the bytes in which the manifest stands.
pub name_stands : (b : List ℕ) (start m k o : ℕ) (x : Alias) → AliasAt (take m (drop start b)) k o x → NameStands b (start + k + 1) x.name
name_stands b start m k o x a =
    let e : start + (k + 1) ≡ start + k + 1 = omega arith in
    record { here = subst (λ (p : ℕ). InString b p x.name) e (in_part b start m (k + 1) x.name a.name) }

-- It stands inside the manifest.
pub name_within : (s : List ℕ) (k o : ℕ) (x : Alias) → AliasAt s k o x → k + 1 < length s
name_within s k o x a = inside_within s (k + 1) (record { bytes = x.name; here = a.name })

-- What holds the strings of a content holds the numbers of a name.
pub named_by : (b at order : List ℕ) (p from to : ℕ) → Holds b at order (content_from b p) (record { from = from; to = to })
    → (n : List ℕ) → NameStands b p n → Named b at order n (record { from = from; to = to })
unfolding name_at
named_by b at order p from to h n x =
    let g = subst (λ (c : List ℕ). Holds b at order c (record { from = from; to = to })) (content_from_is b p n x.here) h in
    record { rising = g.rising; within = g.within; all = g.all }

-- Some number of those of a name passes a test exactly if some number of the index does whose name it is.
pub named_any : {b at order n : List ℕ} {r : Range} → Named b at order n r → (p : ℕ → Bool)
    → any_of p (take (r.to - r.from) (drop r.from order)) ≡ any_of (λ (e : ℕ). same n (name_at b at e) && p e) order
named_any {b} {at} {order} {n} a p = ap (any_of p) a.all ∙ filter_any (λ (e : ℕ). same n (name_at b at e)) p order

-- A number keeps its name where its position stays.
module _ (b at later : List ℕ) (e : ℕ) (same_place : get_or later e 0 ≡ get_or at e 0) where
  -- If two lists of positions agree at a number, the number has the same name in both.
  pub name_kept : name_at b later e ≡ name_at b at e
  unfolding name_at entry_text
  name_kept = ap (content_from b) same_place

  -- It stays the number of a name.
  pub number_kept : length later ≡ length at → NumberOf b at e → NumberOf b later e
  number_kept l x =
      record { entry = record { within = omega (arith, x.entry.within); inside = subst (Inside b) (sym same_place) x.entry.inside } }

module _ (b : List ℕ) (l : Layer) where
  by_name : {at : List ℕ} {e : ℕ} {a : Algorithm} {s n : List ℕ} → NumberOf b at e → name_at b at e ≡ n → l ≡ layer_alias a s n → AliasNamed b at e l
  by_name {a = a} {s} {n} x f p =
      record { algorithm = a; signer = s; number = x; is = p ∙ ap (λ (m : List ℕ). layer_alias a s m) (sym f) }

  -- What was read as an alias is one, and its name begins at the position that was read.
  pub alias_named : (at : List ℕ) (e q : ℕ) (a : Algorithm) (g : ℕ) → e < length at → get_or at e 0 ≡ q → Denotes b (Some (ReadAlias a g q)) l → AliasNamed b at e l
  unfolding name_at entry_text
  alias_named at e q a g h p d =
      by_name
      (record { entry = record { within = h; inside = subst (Inside b) (sym p) d.reads.1 } })
      (ap (content_from b) p)
      (sym d.is ∙ d.reads.2)

  -- What was read as a digest is one.
  pub digest_denoted : (a : Algorithm) (p : ℕ) → Denotes b (Some (Digest a p)) l → (d : List ℕ) × (l ≡ layer_digest a d)
  digest_denoted a p d = (_, sym d.is ∙ d.reads.1)

  -- What was read as no reference is none.
  pub bad_denoted : Denotes b None l → l ≡ no_layer
  bad_denoted d = sym d.is ∙ d.reads
