use mathlib.Core.Path.{sym, ◌∙◌}
use Rattle.manifest_heads.proofs.Searching.{told}
use Rattle.manifest_heads.proofs.has_headed.Goals as goal

pub returns : goal.returns
returns c = λ cs m. c.is_some.ensures ∙ sym (told m _ _ (c.find_headed.ensures cs m))
