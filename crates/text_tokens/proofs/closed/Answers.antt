use mathlib.Core.Path.{refl}
use Rattle.text_tokens.specs.Scanned.{closed_summary}
use Rattle.text_tokens.proofs.closed.Goals as goal

pub returns-clause-value : goal.returns-clause-value
unfolding closed_summary
returns-clause-value c =
    let own = c.order_keys-own.ensures.left_value in
    rw (c.max-key.ensures, own.0, own.1, c.order_keys-own.auto.keys) refl
