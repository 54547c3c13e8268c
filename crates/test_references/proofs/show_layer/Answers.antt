-- What is read is a digest where it says so. Assumes nothing.
use Rattle.test_references.proofs.show_layer.Goals as goal

pub show_digest_at-requires : goal.show_digest_at-requires
show_digest_at-requires c = (rw (c.in-Some-Digest.is, c.in-Some-Digest.field-0-is) at c.read.ensures).0

pub show_digest_at-requires-in-Some-Alias : goal.show_digest_at-requires-in-Some-Alias
show_digest_at-requires-in-Some-Alias c = (rw (c.in-Some-Alias.is, c.in-Some-Alias.field-0-is) at c.read.ensures).0
