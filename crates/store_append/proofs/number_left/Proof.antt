-- `store_append::number_left` meets its contract: the questions are asked in the order of their numbers.
use mathlib.Core.Path.{refl, sym, ◌∙◌}
use native.Mathlib.Omega.{arith}
use borrow.Author.Rules.{rules}
use Rattle.laws.proofs.Order.{false_true}
use Rattle.store_append.proofs.number_left.Statement.{statement}
use Rattle.store_append.proofs.number_left.Tie as tie

returns-then-clashing : tie.Need-returns-then-clashing
returns-then-clashing c =
    let t = c.if-clashing.true in
    record {
      clashes = λ e. refl;
      too_many = λ f e. false_true (sym f ∙ t);
      too_long = λ f l. false_true (sym f ∙ t);
      none = λ f n l. false_true (sym f ∙ t);
    }

returns-then-count-eq-MOST_IMAGES : tie.Need-returns-then-count-eq-MOST_IMAGES
returns-then-count-eq-MOST_IMAGES c =
    let t = c.if-clashing.false in
    record { clashes = λ e. false_true (sym t ∙ e); too_many = λ f e. refl; too_long = λ f l. refl; none = λ f n l. absurd (n c.if-count-eq-MOST_IMAGES.true) }

returns-then-left-head_size : tie.Need-returns-then-left-head_size
returns-then-left-head_size c =
    let k = c.before in
    let t = k.if-clashing.false in
    record {
      clashes = λ e. false_true (sym t ∙ e);
      too_many = λ f e. refl;
      too_long = λ f l. refl;
      none = λ f n l. absurd (omega (arith, c.if-left-head_size.true, k.head_size.ensures));
    }

returns : tie.Need-returns
returns c =
    let k = c.before in
    let t = k.if-clashing.false in
    record {
      clashes = λ e. false_true (sym t ∙ e);
      too_many = λ f e. absurd (k.if-count-eq-MOST_IMAGES.false e);
      too_long = λ f l. absurd (omega (arith, c.if-left-head_size.false, k.head_size.ensures));
      none = λ f n l. refl;
    }

pub number_left_spec : {M : Type 1} → statement M
number_left_spec =
    tie.close (tie.spec returns-then-clashing returns-then-count-eq-MOST_IMAGES (λ c κs. search rules) (λ c. search rules) returns-then-left-head_size
    returns)
