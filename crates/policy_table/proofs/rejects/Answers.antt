-- `policy_table::rejects` answers what the manifest part's function answers.
use Rattle.policy_table.proofs.rejects.Goals as goal

pub returns : goal.returns
returns c = cc
