use Rattle.std.proofs.Common.{rules}
use Rattle.text_tokens.specs.Summary.{plus}
use Rattle.text_tokens.proofs.added.Goals as goal

pub returns : goal.returns
unfolding plus
returns c = search (rules, c.max-string.ensures, c.max-number.ensures, c.max-key.ensures)
