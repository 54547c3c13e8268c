use Rattle.store_varint.proofs.+read.Given as goal

-- The measure is the largest number that is asked for.
abbrev pub decreases-read : goal.decreases-read
decreases-read l = l.most
