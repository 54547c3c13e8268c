-- What the readers answer about a string of a text, by positions in the text: the content from a position on stands for the part there.
use Rattle.std.specs.Prelude.{ℕ, ◌≡◌, List, true, drop, Option, Some, None}
use Rattle.text_strings.specs.InString.{Inside, content_from}
use Rattle.reference_parts.specs.Parts.{first_part}
use Rattle.reference_digests.specs.Digests.{is_digest, digest_of}
use Rattle.reference_digests.specs.Readings.{DigestAt, PlainDigest}
use Rattle.reference_digests.specs.declared.algorithm.Algorithm.{Algorithm}
use Rattle.reference.specs.References.{layer, layer_digest, layer_alias, no_layer, Signer as SignerForm, any_signer, signer, Manifest as ManifestForm}
use Rattle.reference.specs.References.{any_manifest, manifest, self_alias, rule, rule_under, accepts, no_rule, image_id_of, id_under, image_id, no_id}
use Rattle.reference.specs.declared.layer.Layer.{Layer}
use Rattle.reference.specs.declared.layer.Layer.TheVariants.{Digest as LayerDigest, Alias as LayerAlias}
use Rattle.reference.specs.declared.rule.Signer.{Signer}
use Rattle.reference.specs.declared.rule.Signer.TheVariants.{Any as AnySigner, Digest as SignerDigest}
use Rattle.reference.specs.declared.rule.Manifest.{Manifest}
use Rattle.reference.specs.declared.rule.Manifest.TheVariants.{Any as AnyManifest, Digest as ManifestDigest, Alias as SelfAlias}
use Rattle.reference.specs.declared.rule.Rule.{Rule}
use Rattle.reference.specs.declared.id.Id.{Id}

-- a layer reference: the positions of its digest, or of its signer and its alias
abbrev pub LayerReads : List ℕ → ℕ → Option Layer → Type 0
LayerReads s i (Some (LayerDigest a p)) = DigestAt s p a × (layer (content_from s i) ≡ layer_digest a (digest_of (first_part (content_from s p))))
LayerReads s i (Some (LayerAlias a p q)) =
    DigestAt s p a × Inside s q × (layer (content_from s i) ≡ layer_alias a (digest_of (first_part (content_from s p))) (content_from s q))
LayerReads s i None = layer (content_from s i) ≡ no_layer

-- what a SIGNER and a MANIFEST stand for
abbrev pub signer_form : List ℕ → Signer → SignerForm
signer_form s AnySigner = any_signer
signer_form s (SignerDigest p) = signer (digest_of (first_part (content_from s p)))

abbrev pub manifest_form : List ℕ → Manifest → ManifestForm
manifest_form s AnyManifest = any_manifest
manifest_form s (ManifestDigest p) = manifest (digest_of (first_part (content_from s p)))
manifest_form s (SelfAlias p) = self_alias (content_from s p)

-- digests of that algorithm, and an alias, stand at the positions that they hold
abbrev pub SignerAt : List ℕ → Algorithm → Signer → Type 0
SignerAt s a AnySigner = Unit {0}
SignerAt s a (SignerDigest p) = DigestAt s p a

abbrev pub ManifestAt : List ℕ → Algorithm → Manifest → Type 0
ManifestAt s a AnyManifest = Unit {0}
ManifestAt s a (ManifestDigest p) = DigestAt s p a
ManifestAt s a (SelfAlias p) = Inside s p

-- a rule of that algorithm, with SIGNER at position i and MANIFEST at position j
abbrev pub RuleUnder : List ℕ → Algorithm → ℕ → ℕ → Option Rule → Type 0
RuleUnder s a i j (Some r) =
    SignerAt s r.algorithm r.signer × ManifestAt s r.algorithm r.manifest
    × (rule_under (Some a) (first_part (content_from s i)) (content_from s j)
    ≡ accepts r.algorithm (signer_form s r.signer) (manifest_form s r.manifest))
RuleUnder s a i j None = rule_under (Some a) (first_part (content_from s i)) (content_from s j) ≡ no_rule

-- a rule
abbrev pub RuleReads : List ℕ → ℕ → Option Rule → Type 0
RuleReads s i (Some r) =
    SignerAt s r.algorithm r.signer × ManifestAt s r.algorithm r.manifest
    × (rule (content_from s i) ≡ accepts r.algorithm (signer_form s r.signer) (manifest_form s r.manifest))
RuleReads s i None = rule (content_from s i) ≡ no_rule

-- an Image ID of that algorithm whose signer and manifest are c and d, at the positions i and j
abbrev pub IdUnder : Algorithm → List ℕ → List ℕ → ℕ → ℕ → Option Id → Type 0
IdUnder a c d i j (Some r) = (r.algorithm ≡ a) × (r.signer ≡ i) × (r.manifest ≡ j) × (is_digest a c ≡ true) × (is_digest a d ≡ true)
IdUnder a c d i j None = id_under (Some a) c d ≡ no_id

-- an Image ID: the positions of its signer and its manifest digest
abbrev pub IdReads : List ℕ → Option Id → Type 0
IdReads s (Some r) =
    PlainDigest s r.signer r.algorithm × PlainDigest s r.manifest r.algorithm
    × (image_id_of s ≡ image_id r.algorithm (digest_of (first_part (drop r.signer s))) (digest_of (first_part (drop r.manifest s))))
IdReads s None = image_id_of s ≡ no_id
