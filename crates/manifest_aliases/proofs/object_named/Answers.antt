use native.Mathlib.Omega.{arith}
use Rattle.text_strings.proofs.Cursors.{inside_within}
use Rattle.manifest_fields.specs.Accessors.{contents_of, contents_field}
use Rattle.manifest.specs.Manifest.{manifest_of}
use Rattle.manifest.proofs.Groups.{contents_grouped}
use Rattle.manifest_aliases.proofs.Objects.{no_object, key_inside, object_at}
use Rattle.manifest_aliases.proofs.object_named.Goals as goal

pub object_of-requires : goal.object_of-requires
object_of-requires c = (contents_grouped _ _ c.requires.0, c.requires.1)

pub returns-in-None : goal.returns-in-None
unfolding contents_of
returns-in-None c = no_object _ _ (c.in-None.ensures (contents_field (manifest_of _)) c.requires.0.contents)

pub overflow_add-key : goal.overflow_add-key
unfolding contents_of
overflow_add-key c =
    omega (arith, inside_within _ _ (key_inside _ _ _ _ (c.in-Some.ensures (contents_field (manifest_of _)) c.requires.0.contents)))

pub read-object-requires : goal.read-object-requires
unfolding contents_of
read-object-requires c = key_inside _ _ _ _ (c.in-Some.ensures (contents_field (manifest_of _)) c.requires.0.contents)

pub returns-in-Some : goal.returns-in-Some
unfolding contents_of
returns-in-Some c = object_at _ _ _ _ (c.in-Some.ensures (contents_field (manifest_of _)) c.requires.0.contents) _ c.read-object.ensures
