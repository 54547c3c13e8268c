-- Layer references, rules and Image IDs by their parts (document 01, "References, names and rules"). A digest is held as its bytes: its
-- hexadecimal digits stand in a text only.
use Rattle.std.specs.Prelude.{ℕ, List, [], ◌∷◌, Bool, true, false, ◌&&◌, ◌||◌, Option, Some, None}
use Rattle.laws.specs.Order.{same}
use Rattle.reference_parts.specs.Parts.{parts, joined}
use Rattle.reference_digests.specs.Algorithms.{named, name_of}
use Rattle.reference_digests.specs.Digests.{is_digest, digest_of, hex_of}
use Rattle.reference_digests.specs.declared.algorithm.Algorithm.{Algorithm}
use Rattle.reference_aliases.specs.Aliases.{is_alias, star}

-- the word `signer`
abbrev pub signer_word : List ℕ
signer_word = 0x73 ∷ 0x69 ∷ 0x67 ∷ 0x6E ∷ 0x65 ∷ 0x72 ∷ []  -- signer

-- HASH/FSLAYER, or signer/HASH/SIGNER/ALIAS
pub data Layer : Type 0 where
  -- the bytes of FSLAYER
  layer_digest : Algorithm → List ℕ → Layer
  -- the bytes of SIGNER, and the alias
  layer_alias : Algorithm → List ℕ → List ℕ → Layer
  no_layer : Layer

unfoldable pub digest_layer : Option Algorithm → List ℕ → Layer
digest_layer None d = no_layer
digest_layer (Some a) d = elim (is_digest a d) [ true ↦ layer_digest a (digest_of d) | false ↦ no_layer ]

unfoldable pub alias_layer : Bool → Option Algorithm → List ℕ → List ℕ → Layer
alias_layer false k s n = no_layer
alias_layer true None s n = no_layer
alias_layer true (Some a) s n = elim (is_digest a s && is_alias n) [ true ↦ layer_alias a (digest_of s) n | false ↦ no_layer ]

unfoldable pub layer_of : List (List ℕ) → Layer
layer_of [] = no_layer
layer_of (h ∷ []) = no_layer
layer_of (h ∷ d ∷ []) = digest_layer (named h) d
layer_of (w ∷ h ∷ s ∷ []) = no_layer
layer_of (w ∷ h ∷ s ∷ n ∷ []) = alias_layer (same w signer_word) (named h) s n
layer_of (w ∷ h ∷ s ∷ n ∷ p ∷ ps) = no_layer

unfoldable pub layer : List ℕ → Layer
layer c = layer_of (parts c)

-- the one text of a layer reference
unfoldable pub layer_text : Layer → List ℕ
layer_text (layer_digest a d) = joined (name_of a ∷ hex_of d ∷ [])
layer_text (layer_alias a s n) = joined (signer_word ∷ name_of a ∷ hex_of s ∷ n ∷ [])
layer_text no_layer = []

-- SIGNER of a rule is a digest, by its bytes, or `*`
pub data Signer : Type 0 where
  any_signer : Signer
  signer : List ℕ → Signer

unfoldable pub is_signer : Algorithm → List ℕ → Bool
is_signer a s = same s star || is_digest a s

unfoldable pub signer_of : List ℕ → Signer
signer_of s = elim (same s star) [ true ↦ any_signer | false ↦ signer (digest_of s) ]

-- MANIFEST of a rule is a digest, by its bytes, an alias or `*`
pub data Manifest : Type 0 where
  any_manifest : Manifest
  manifest : List ℕ → Manifest
  self_alias : List ℕ → Manifest

unfoldable pub is_manifest : Algorithm → List ℕ → Bool
is_manifest a m = same m star || (is_digest a m || is_alias m)

unfoldable pub manifest_of : Algorithm → List ℕ → Manifest
manifest_of a m = elim (same m star) [ true ↦ any_manifest | false ↦ elim (is_digest a m) [ true ↦ manifest (digest_of m) | false ↦ self_alias m ] ]

-- HASH/SIGNER/MANIFEST
pub data Rule : Type 0 where
  accepts : Algorithm → Signer → Manifest → Rule
  no_rule : Rule

unfoldable pub rule_under : Option Algorithm → List ℕ → List ℕ → Rule
rule_under None s m = no_rule
rule_under (Some a) s m =
    elim (is_signer a s && is_manifest a m) [ true ↦ accepts a (signer_of s) (manifest_of a m) | false ↦ no_rule ]

unfoldable pub rule_of : List (List ℕ) → Rule
rule_of [] = no_rule
rule_of (h ∷ []) = no_rule
rule_of (h ∷ s ∷ []) = no_rule
rule_of (h ∷ s ∷ m ∷ []) = rule_under (named h) s m
rule_of (h ∷ s ∷ m ∷ p ∷ ps) = no_rule

unfoldable pub rule : List ℕ → Rule
rule c = rule_of (parts c)

-- an Image ID: HASH/SIGNER/MANIFEST, both digests, by their bytes
pub data Id : Type 0 where
  image_id : Algorithm → List ℕ → List ℕ → Id
  no_id : Id

unfoldable pub id_under : Option Algorithm → List ℕ → List ℕ → Id
id_under None s m = no_id
id_under (Some a) s m = elim (is_digest a s && is_digest a m) [ true ↦ image_id a (digest_of s) (digest_of m) | false ↦ no_id ]

unfoldable pub id_of : List (List ℕ) → Id
id_of [] = no_id
id_of (h ∷ []) = no_id
id_of (h ∷ s ∷ []) = no_id
id_of (h ∷ s ∷ m ∷ []) = id_under (named h) s m
id_of (h ∷ s ∷ m ∷ p ∷ ps) = no_id

unfoldable pub image_id_of : List ℕ → Id
image_id_of c = id_of (parts c)

-- the one text of an Image ID
unfoldable pub id_text : Id → List ℕ
id_text (image_id a s m) = joined (name_of a ∷ hex_of s ∷ hex_of m ∷ [])
id_text no_id = []
