-- An alias is looked up, any other rule asks for none. Assumes nothing.
use mathlib.Core.Path.{subst}
use Rattle.reference.specs.Readings.{ManifestAt}
use Rattle.manifest.proofs.Accepting.{read_bad, read_parts, read_accepts}
use Rattle.manifest_index.proofs.Naming.{asks_bad, asks_any, asks_digest, asks_alias}
use Rattle.manifest_index.proofs.asked.Goals as goal

pub find-r-requires : goal.find-r-requires
find-r-requires c =
    let p = c.requires in (
      record { strings = p.1.numbers; index = p.1.index.index },
      subst (ManifestAt c.args.s.now _) c.in-Alias.is (read_parts _ _ _ p.0.read _ c.in-Some.is).1,
    )

pub returns-in_default : goal.returns-in_default
returns-in_default c = λ y k. asks_bad _ _ _ y (read_bad _ _ y k c.in_default.is)

pub returns-in-Any : goal.returns-in-Any
returns-in-Any c = λ y k. asks_any _ _ _ y _ _ (rw c.in-Any.is at (read_accepts _ _ y k _ c.in-Some.is))

pub returns-in-Digest : goal.returns-in-Digest
returns-in-Digest c = λ y k. asks_digest _ _ _ y _ _ _ (rw c.in-Digest.is at (read_accepts _ _ y k _ c.in-Some.is))

pub returns-in-Alias : goal.returns-in-Alias
returns-in-Alias c = λ y k. asks_alias _ _ _ y _ _ _ (rw c.in-Alias.is at (read_accepts _ _ y k _ c.in-Some.is)) _ c.find-r.ensures
