use Rattle.std.proofs.Common.{rules}
use Rattle.text_tokens.specs.Summary.{member_summary}
use Rattle.text_tokens.proofs.member.Goals as goal

pub returns : goal.returns
unfolding member_summary
returns c = search (rules, c.max-string.ensures)
