-- Of an alias the algorithms are compared, and the digests of the signers. Assumes nothing.
use Rattle.std.specs.Prelude.{Some}
use mathlib.Core.Path.{sym, ap, ◌∙◌}
use Rattle.reference_digests.proofs.Bytes.{same_bytes, other_bytes}
use Rattle.reference.specs.declared.layer.Layer.{Layer}
use Rattle.manifest_objects.proofs.Reading.{other_algorithm, same_algorithm, as_alias, is_digest, is_none}
use Rattle.manifest_objects.proofs.is_alias_of.Goals as goal

pub returns-in-None : goal.returns-in-None
returns-in-None c = λ l h. is_none _ _ _ c.read.ensures _ _ l h c.in-None.is

pub returns-in-Some-Digest : goal.returns-in-Some-Digest
returns-in-Some-Digest c = λ l h.
    is_digest _ _ _ c.read.ensures _ _ l h _ _ (c.in-Some-Digest.is ∙ ap (λ (x : Layer). Some x) c.in-Some-Digest.field-0-is)

pub returns-then-ne : goal.returns-then-ne
returns-then-ne c = λ l h.
    let e = c.in-Some-Alias.is ∙ ap (λ (x : Layer). Some x) c.in-Some-Alias.field-0-is in
    let f = as_alias _ _ _ c.read.ensures _ _ _ e in
    other_algorithm _ _ _ _ _ _ _ f.2 l h (other_bytes _ _ (sym c.ne.ensures ∙ c.if-ne.true))

pub is-requires : goal.is-requires
is-requires c =
    let e = c.in-Some-Alias.is ∙ ap (λ (x : Layer). Some x) c.in-Some-Alias.field-0-is in
    (as_alias _ _ _ c.read.ensures _ _ _ e).0

pub returns-else-ne : goal.returns-else-ne
returns-else-ne c = λ l h.
    let e = c.in-Some-Alias.is ∙ ap (λ (x : Layer). Some x) c.in-Some-Alias.field-0-is in
    let f = as_alias _ _ _ c.read.ensures _ _ _ e in
    same_algorithm _ _ _ _ _ _ _ f.2 l h (same_bytes _ _ (sym c.ne.ensures ∙ c.if-ne.false)) _ c.is.ensures
