-- Each kind of reference has its mark. Assumes nothing.
use Rattle.lookup_index.proofs.Marking.{marks_digest, marks_bad, marks_alias}
use Rattle.lookup_index.proofs.mark.Goals as goal

pub returns-in-None : goal.returns-in-None
returns-in-None c = λ l h. marks_bad _ _ l _ _ (rw c.in-None.is at (c.read.ensures l h))

pub returns-in-Some-Digest : goal.returns-in-Some-Digest
returns-in-Some-Digest c = λ l h. marks_digest _ _ l _ _ _ _ (rw (c.in-Some-Digest.is, c.in-Some-Digest.field-0-is) at (c.read.ensures l h))

pub returns-in-Some-Alias : goal.returns-in-Some-Alias
returns-in-Some-Alias c = λ l h.
    marks_alias _ _ l _ _ _ _ _ c.requires.1 (rw (c.in-Some-Alias.is, c.in-Some-Alias.field-0-is) at (c.read.ensures l h))
