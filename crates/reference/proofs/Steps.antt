-- Reading a reference part by part, by positions of the text.
-- Assumes nothing.
use Rattle.std.specs.Prelude.{Option, Some, None}
use Prim.Native.Nat.{ℕ, ◌≤◌}
use mathlib.Core.Path.{◌≡◌, refl, ap, sym, ◌∙◌}
use mathlib.Core.List.{List, [], ◌∷◌}
use mathlib.Core.Bool.{Bool, true, false}
use lib.ListN.{length, drop}
use Rattle.laws.specs.Order.{same}
use Rattle.text_strings.specs.InString.{content_from}
use Rattle.reference_parts.specs.Parts.{first_part, parts}
use Rattle.reference_parts.specs.Readings.{PartAt, Divided, PlainPart}
use Rattle.reference_parts.specs.declared.part.Part.{Part}
use Rattle.reference_parts.proofs.Counting.{first_whole}
use Rattle.reference_parts.proofs.Parts.{is_last, last_parts, more_parts, before}
use Rattle.reference_digests.specs.Algorithms.{named}
use Rattle.reference_digests.specs.Digests.{is_digest, digest_of}
use Rattle.reference_digests.specs.declared.algorithm.Algorithm.{Algorithm}
use Rattle.reference_aliases.specs.Aliases.{star, is_alias}
use Rattle.reference.specs.Readings.{RuleUnder, RuleReads, IdUnder, IdReads}
use Rattle.reference.specs.References.{no_layer, layer_digest, layer_alias, digest_layer, alias_layer, signer_word, layer, any_signer, signer, signer_of}
use Rattle.reference.specs.References.{is_signer, any_manifest, manifest, self_alias, manifest_of, is_manifest, accepts, no_rule, rule_under, rule, no_id}
use Rattle.reference.specs.References.{image_id, id_under, image_id_of}
use Rattle.reference.specs.declared.rule.Rule.{Rule}
use Rattle.reference.specs.declared.id.Id.{Id}
use Rattle.reference.proofs.Forms.{layer_two, layer_four, rule_parts, id_parts}

module _ (s : List ℕ) (i : ℕ) (p : Part) (k : PartAt s i p) where
  -- Where a part is the last, the content from it on has one part, which is that content.
  pub at_last : p.last ≡ true → parts (content_from s i) ≡ content_from s i ∷ []
  at_last e = last_parts (content_from s i) p k.counts e

  -- Where it is not the last, the parts of the content are this one and those from the next position on.
  pub at_more : p.last ≡ false → parts (content_from s i) ≡ first_part (content_from s i) ∷ parts (content_from s p.next)
  at_more e = more_parts (content_from s i) p k.counts (content_from s p.next) k.rest e

-- SIGNER and MANIFEST of a rule
module _ (x : List ℕ) where
  -- A SIGNER that is `*` stands for any signer.
  pub signer_any : same x star ≡ true → any_signer ≡ signer_of x
  unfolding signer_of
  signer_any e = rw (e, signer_of)

  -- A SIGNER that is not `*` stands for the signer with the bytes of that digest.
  pub signer_one : same x star ≡ false → signer (digest_of x) ≡ signer_of x
  unfolding signer_of
  signer_one e = rw (e, signer_of)

  module _ (a : Algorithm) where
    -- a SIGNER that is not `*` is a digest
    pub signer_digest : is_signer a x ≡ true → same x star ≡ false → is_digest a x ≡ true
    unfolding is_signer
    signer_digest e f = rw f at e

    -- A MANIFEST that is `*` stands for any manifest.
    pub manifest_any : same x star ≡ true → any_manifest ≡ manifest_of a x
    unfolding manifest_of
    manifest_any e = rw (e, manifest_of)

    -- A MANIFEST that is not `*` but a digest stands for the manifest with the digest's bytes.
    pub manifest_one : same x star ≡ false → is_digest a x ≡ true → manifest (digest_of x) ≡ manifest_of a x
    unfolding manifest_of
    manifest_one e f = rw (e, manifest_of) (rw f)

    -- A MANIFEST that is neither `*` nor a digest stands for the alias that it is.
    pub manifest_alias : same x star ≡ false → is_digest a x ≡ false → self_alias x ≡ manifest_of a x
    unfolding manifest_of
    manifest_alias e f = rw (e, manifest_of) (rw f)

-- a rule under an algorithm
module _ (a : Algorithm) (x y : List ℕ) where
  -- Without a SIGNER of the algorithm there is no rule.
  pub rule_no_signer : is_signer a x ≡ false → rule_under (Some a) x y ≡ no_rule
  unfolding rule_under
  rule_no_signer e = rw (e, rule_under)

  -- With a SIGNER and no MANIFEST of the algorithm there is no rule.
  pub rule_no_manifest : is_signer a x ≡ true → is_manifest a y ≡ false → rule_under (Some a) x y ≡ no_rule
  unfolding rule_under
  rule_no_manifest e f = rw (e, rule_under) (rw f)

  -- With both there is the rule of the algorithm for what they stand for.
  pub rule_accepts : is_signer a x ≡ true → is_manifest a y ≡ true → rule_under (Some a) x y ≡ accepts a (signer_of x) (manifest_of a y)
  unfolding rule_under
  rule_accepts e f = rw (e, rule_under) (rw f)

rule_unknown : (x y : List ℕ) → rule_under None x y ≡ no_rule
unfolding rule_under
rule_unknown x y = refl

rule_reads : (s : List ℕ) (i j k : ℕ) (a : Algorithm) (r : Option Rule) → rule (content_from s i) ≡ rule_under (Some a) (first_part (content_from s j)) (content_from s k)
    → RuleUnder s a j k r → RuleReads s i r
rule_reads s i j k a (Some r) e u = (u.0, u.1, e ∙ u.2)
rule_reads s i j k a None e u = e ∙ u

-- a layer reference under an algorithm
module _ (a : Algorithm) where
  -- A digest of the algorithm is a layer reference by its bytes.
  pub digest_good : (x d : List ℕ) → x ≡ d → is_digest a x ≡ true → digest_layer (Some a) d ≡ layer_digest a (digest_of x)
  unfolding digest_layer
  digest_good x d w e = ap (digest_layer (Some a)) (sym w) ∙ rw (e, digest_layer)

  -- What is no digest of the algorithm is no layer reference.
  pub digest_bad : (d : List ℕ) → is_digest a d ≡ false → digest_layer (Some a) d ≡ no_layer
  unfolding digest_layer
  digest_bad d e = rw (e, digest_layer)

  module _ (x n : List ℕ) where
    -- A signer that is a digest of the algorithm and an alias are a layer reference by the signer's bytes and the alias.
    pub alias_good : is_digest a x ≡ true → is_alias n ≡ true → alias_layer true (Some a) x n ≡ layer_alias a (digest_of x) n
    unfolding alias_layer
    alias_good e f = rw (e, alias_layer) (rw f)

    -- Where the signer is no digest of the algorithm, there is no layer reference.
    pub alias_no_signer : is_digest a x ≡ false → alias_layer true (Some a) x n ≡ no_layer
    unfolding alias_layer
    alias_no_signer e = rw (e, alias_layer)

    -- Where the signer is a digest of the algorithm and the name is no alias, there is no layer reference.
    pub alias_no_name : is_digest a x ≡ true → is_alias n ≡ false → alias_layer true (Some a) x n ≡ no_layer
    unfolding alias_layer
    alias_no_name e f = rw (e, alias_layer) (rw f)

-- With an unknown algorithm a digest is no layer reference.
pub digest_unknown : (d : List ℕ) → digest_layer None d ≡ no_layer
unfolding digest_layer
digest_unknown d = refl

-- With an unknown algorithm a signer and an alias are no layer reference.
pub alias_unknown : (w : Bool) (x n : List ℕ) → alias_layer w None x n ≡ no_layer
unfolding alias_layer
alias_unknown true x n = refl
alias_unknown false x n = refl

-- Without the word `signer` a signer and an alias are no layer reference.
pub alias_no_word : (k : Option Algorithm) (x n : List ℕ) → alias_layer false k x n ≡ no_layer
unfolding alias_layer
alias_no_word k x n = refl

-- an Image ID under an algorithm
module _ (a : Algorithm) (x y : List ℕ) where
  -- Where the signer is no digest of the algorithm, there is no Image ID.
  pub id_no_signer : is_digest a x ≡ false → id_under (Some a) x y ≡ no_id
  unfolding id_under
  id_no_signer e = rw (e, id_under)

  -- Where the signer is a digest of the algorithm and the manifest is none, there is no Image ID.
  pub id_no_manifest : is_digest a x ≡ true → is_digest a y ≡ false → id_under (Some a) x y ≡ no_id
  unfolding id_under
  id_no_manifest e f = rw (e, id_under) (rw f)

  -- Where both are digests of the algorithm, there is the Image ID with their bytes.
  pub id_good : is_digest a x ≡ true → is_digest a y ≡ true → id_under (Some a) x y ≡ image_id a (digest_of x) (digest_of y)
  unfolding id_under
  id_good e f = rw (e, id_under) (rw f)

-- With an unknown algorithm there is no Image ID.
pub id_unknown : (x y : List ℕ) → id_under None x y ≡ no_id
unfolding id_under
id_unknown x y = refl

-- two, three and four parts
module _ (s : List ℕ) (i : ℕ) (p q : Part) (d : Divided s i p q) where
  -- Where the second part is the last, the parts are the first one and the content after it.
  pub two_parts : q.last ≡ true → parts (content_from s i) ≡ first_part (content_from s i) ∷ content_from s p.next ∷ []
  two_parts e = before _ _ _ _ (at_more s i p d.first d.more) (at_last s p.next q d.second e)

  module _ (r : Part) (f : Divided s p.next q r) where
    -- Where the third part is the last, the parts are the first two and the content after them.
    pub three_parts : r.last ≡ true
        → parts (content_from s i) ≡ first_part (content_from s i) ∷ first_part (content_from s p.next) ∷ content_from s q.next ∷ []
    three_parts e =
        before _ _ _ _ (at_more s i p d.first d.more)
        (before _ _ _ _ (at_more s p.next q f.first f.more) (at_last s q.next r f.second e))

    -- Where the third part is not the last, the parts are the first three and those after them.
    pub past_three : r.last ≡ false
        → parts (content_from s i) ≡ first_part (content_from s i) ∷ first_part (content_from s p.next) ∷ first_part (content_from s q.next) ∷ parts
        (content_from s r.next)
    past_three e =
        before _ _ _ _ (at_more s i p d.first d.more)
        (before _ _ _ _ (at_more s p.next q f.first f.more) (at_more s q.next r f.second e))

    module _ (t : Part) (g : Divided s q.next r t) where
      -- Where the fourth part is the last, the parts are the first three and the content after them.
      pub four_parts : t.last ≡ true
          → parts (content_from s i) ≡ first_part (content_from s i) ∷ first_part (content_from s p.next) ∷ first_part (content_from s q.next) ∷ content_from s
          r.next ∷ []
      four_parts e =
          past_three g.more
          ∙ ap (λ (x : List (List ℕ)). first_part (content_from s i) ∷ first_part (content_from s p.next) ∷ first_part (content_from s q.next) ∷ x)
          (at_last s r.next t g.second e)

      -- Where the fourth part is not the last, the parts are the first four and those after them.
      pub past_four : t.last ≡ false
          → parts (content_from s i) ≡ first_part (content_from s i) ∷ first_part (content_from s p.next) ∷ first_part (content_from s q.next) ∷ first_part
          (content_from s r.next) ∷ parts (content_from s t.next)
      past_four e =
          past_three g.more
          ∙ ap (λ (x : List (List ℕ)). first_part (content_from s i) ∷ first_part (content_from s p.next) ∷ first_part (content_from s q.next) ∷ x)
          (at_more s r.next t g.second e)

      -- signer/HASH/SIGNER/ALIAS
      pub layer_by_alias : (k : Option Algorithm) → t.last ≡ true → k ≡ named (first_part (content_from s p.next))
          → layer (content_from s i)
          ≡ alias_layer (same (first_part (content_from s i)) signer_word) k (first_part (content_from s q.next)) (content_from s r.next)
      layer_by_alias k e h =
          layer_four (content_from s i) _ _ _ _ (four_parts e)
          ∙ ap (λ (x : Option Algorithm). alias_layer (same (first_part (content_from s i)) signer_word) x (first_part (content_from s q.next)) (content_from s r.next))
          (sym h)

      -- Four parts of which the first is not the word `signer` are no layer reference.
      pub by_no_word : t.last ≡ true → same (first_part (content_from s i)) signer_word ≡ false → layer (content_from s i) ≡ no_layer
      by_no_word e f =
          layer_by_alias (named (first_part (content_from s p.next))) e refl
          ∙ ap (λ (x : Bool). alias_layer x (named (first_part (content_from s p.next))) (first_part (content_from s q.next)) (content_from s r.next)) f
          ∙ alias_no_word _ _ _

      -- Four parts of which the second names no known algorithm are no layer reference.
      pub by_unknown : (k : Option Algorithm) → t.last ≡ true → k ≡ named (first_part (content_from s p.next)) → k ≡ None → layer (content_from s i) ≡ no_layer
      by_unknown k e h f =
          layer_by_alias k e h
          ∙ ap (λ (x : Option Algorithm). alias_layer (same (first_part (content_from s i)) signer_word) x (first_part (content_from s q.next)) (content_from s r.next)) f
          ∙ alias_unknown _ _ _

      -- Four parts with the word `signer` and the name of an algorithm are read under it as a signer and an alias.
      pub by_known : (k : Option Algorithm) (a : Algorithm) → t.last ≡ true → k ≡ named (first_part (content_from s p.next)) → k ≡ Some a
          → same (first_part (content_from s i)) signer_word ≡ true
          → layer (content_from s i) ≡ alias_layer true (Some a) (first_part (content_from s q.next)) (content_from s r.next)
      by_known k a e h f w =
          layer_by_alias k e h
          ∙ ap (λ (x : Option Algorithm). alias_layer (same (first_part (content_from s i)) signer_word) x (first_part (content_from s q.next)) (content_from s r.next)) f
          ∙ ap (λ (x : Bool). alias_layer x (Some a) (first_part (content_from s q.next)) (content_from s r.next)) w

    -- HASH/SIGNER/MANIFEST
    rule_by_parts : (k : Option Algorithm) → r.last ≡ true → k ≡ named (first_part (content_from s i))
        → rule (content_from s i) ≡ rule_under k (first_part (content_from s p.next)) (content_from s q.next)
    rule_by_parts k e h =
        (rule_parts (content_from s i)).three _ _ _ (three_parts e)
        ∙ ap (λ (x : Option Algorithm). rule_under x (first_part (content_from s p.next)) (content_from s q.next)) (sym h)

    module _ (k : Option Algorithm) (e : r.last ≡ true) (h : k ≡ named (first_part (content_from s i))) where
      -- Three parts of which the first names no known algorithm are no rule.
      pub rule_none : k ≡ None → rule (content_from s i) ≡ no_rule
      rule_none u =
          rule_by_parts k e h ∙ ap (λ (x : Option Algorithm). rule_under x (first_part (content_from s p.next)) (content_from s q.next)) u ∙ rule_unknown _ _

      -- Where the first part names an algorithm, the answer for SIGNER and MANIFEST under it is the answer for the rule.
      pub rule_known : (a : Algorithm) → k ≡ Some a → (y : Option Rule) → RuleUnder s a p.next q.next y → RuleReads s i y
      rule_known a u y v =
          rule_reads s i p.next q.next a y
          (rule_by_parts k e h ∙ ap (λ (x : Option Algorithm). rule_under x (first_part (content_from s p.next)) (content_from s q.next)) u) v

  -- HASH/FSLAYER
  pub layer_by_digest : (k : Option Algorithm) → q.last ≡ true → k ≡ named (first_part (content_from s i))
      → layer (content_from s i) ≡ digest_layer k (content_from s p.next)
  layer_by_digest k e h =
      layer_two (content_from s i) _ _ (two_parts e) ∙ ap (λ (x : Option Algorithm). digest_layer x (content_from s p.next)) (sym h)

-- the parts of an Image ID
module _ (s : List ℕ) (p : Part) (a : PlainPart s 0 p) where
  -- Where the first part of a list of bytes is the last, the list has one part, which is the list.
  pub plain_one : p.last ≡ true → parts s ≡ s ∷ []
  plain_one e = last_parts s p a.counts e

  module _ (e : p.last ≡ false) (q : Part) (b : PlainPart s p.next q) where
    plain_first : parts s ≡ first_part s ∷ parts (drop p.next s)
    plain_first = more_parts s p a.counts (drop p.next s) a.rest e

    -- Where the second part is the last, the parts are the first one and the bytes after it.
    pub plain_two : q.last ≡ true → parts s ≡ first_part s ∷ drop p.next s ∷ []
    plain_two f = before _ _ _ _ plain_first (last_parts (drop p.next s) q b.counts f)

    module _ (f : q.last ≡ false) (r : Part) (c : PlainPart s q.next r) where
      plain_second : parts s ≡ first_part s ∷ first_part (drop p.next s) ∷ parts (drop q.next s)
      plain_second = before _ _ _ _ plain_first (more_parts (drop p.next s) q b.counts (drop q.next s) b.rest f)

      -- Where the third part is not the last, the parts are the first three and those after them.
      pub plain_past : r.last ≡ false → parts s ≡ first_part s ∷ first_part (drop p.next s) ∷ first_part (drop q.next s) ∷ parts (drop r.next s)
      plain_past g =
          plain_second
          ∙ ap (λ (x : List (List ℕ)). first_part s ∷ first_part (drop p.next s) ∷ x)
          (more_parts (drop q.next s) r c.counts (drop r.next s) c.rest g)

      module _ (g : r.last ≡ true) (k : Option Algorithm) (h : k ≡ named (first_part s)) where
        -- Where the third part is the last, the Image ID is that of the second and the third part under what the first names.
        pub id_by_parts : image_id_of s ≡ id_under k (first_part (drop p.next s)) (drop q.next s)
        id_by_parts =
            (id_parts s).three _ _ _ (plain_second ∙ ap (λ (x : List (List ℕ)). first_part s ∷ first_part (drop p.next s) ∷ x)
            (last_parts (drop q.next s) r c.counts g))
            ∙ ap (λ (x : Option Algorithm). id_under x (first_part (drop p.next s)) (drop q.next s)) (sym h)

        -- Three parts of which the first names no known algorithm are no Image ID.
        pub id_none : k ≡ None → image_id_of s ≡ no_id
        id_none u = id_by_parts ∙ ap (λ (x : Option Algorithm). id_under x (first_part (drop p.next s)) (drop q.next s)) u ∙ id_unknown _ _

        -- both digests stand within the bytes
        pub id_reads : p.next ≤ length s → q.next ≤ length s → (x : Algorithm) → k ≡ Some x → (y : Option Id)
            → IdUnder x (first_part (drop p.next s)) (first_part (drop q.next s)) p.next q.next y → IdReads s y
        id_reads w v x u y z = by_form y z
          where
            last : first_part (drop q.next s) ≡ drop q.next s
            last = first_whole (drop q.next s) (is_last (drop q.next s) r c.counts g)

            known : image_id_of s ≡ id_under (Some x) (first_part (drop p.next s)) (first_part (drop q.next s))
            known =
                id_by_parts ∙ ap (λ (z : Option Algorithm). id_under z (first_part (drop p.next s)) (drop q.next s)) u
                ∙ ap (id_under (Some x) (first_part (drop p.next s))) (sym last)

            by_form : (y : Option Id) → IdUnder x (first_part (drop p.next s)) (first_part (drop q.next s)) p.next q.next y → IdReads s y
            by_form (Some r) z =
                let d = z.3 in
                let e = z.4 in
                rw (z.0, z.1, z.2) (
                  record { within = w; digest = d },
                  record { within = v; digest = e },
                  known ∙ id_good x _ _ d e,
                )
            by_form None z = known ∙ z
