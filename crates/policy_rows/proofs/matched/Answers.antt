use Rattle.std.proofs.Common.{◌≡◌, ◌-◌, sym, ◌∙◌, arith, length}
use Rattle.policy_rows.proofs.Naming.{named_in}
use Rattle.policy_rows.proofs.Rows.{images_none, word_fits, image_unmarked, image_marked, built_all}
use Rattle.policy_rows.proofs.matched.Goals as goal

pub loop-j-init : goal.loop-j-init
loop-j-init c y k =
    let v = c.args.v in
    let room : length v.records ≡ 64 = omega arith in
    images_none c.args.b.now v c.requires.1.few room _

pub overflow_mul-word : goal.overflow_mul-word
overflow_mul-word c =
    let p = c.requires.0 in
    let v = c.args.v in
    let room : length v.records ≡ 64 = omega arith in
    omega (arith, word_fits c.args.b.now v c.requires.1.few room _ _ _ c.loop-j-test.true (c.loop-j.invariant p.rule p.read))

pub overflow_add-word : goal.overflow_add-word
overflow_add-word c =
    let p = c.requires.0 in
    let v = c.args.v in
    let room : length v.records ≡ 64 = omega arith in
    omega (arith, word_fits c.args.b.now v c.requires.1.few room _ _ _ c.loop-j-test.true (c.loop-j.invariant p.rule p.read))

pub loop-j-preserved-then-matches_image : goal.loop-j-preserved-then-matches_image
loop-j-preserved-then-matches_image c y k =
    let a = c.args in
    let few = c.requires.1.few in
    let room : length a.v.records ≡ 64 = omega arith in
    let next = c.loop-j.j - 1 in
    let b = c.loop-j.invariant y k in
    let named = c.named_by-named.ensures y k next ∙ named_in a.b.now a.v a.at.now a.order.now few c.requires.2 y next (omega (arith, b.within, c.loop-j-test.true)) in
    image_marked a.b.now a.v few room _ _ _ c.loop-j-test.true b (sym (c.matches_image.ensures y k (c.has.ensures ∙ named)) ∙ c.if-matches_image.true)

pub loop-j-preserved : goal.loop-j-preserved
loop-j-preserved c y k =
    let a = c.args in
    let few = c.requires.1.few in
    let room : length a.v.records ≡ 64 = omega arith in
    let next = c.loop-j.j - 1 in
    let b = c.loop-j.invariant y k in
    let named = c.named_by-named.ensures y k next ∙ named_in a.b.now a.v a.at.now a.order.now few c.requires.2 y next (omega (arith, b.within, c.loop-j-test.true)) in
    image_unmarked a.b.now a.v few room _ _ _ c.loop-j-test.true b (sym (c.matches_image.ensures y k (c.has.ensures ∙ named)) ∙ c.if-matches_image.false)

pub returns-clause-upper_bound : goal.returns-clause-upper_bound
returns-clause-upper_bound c =
    let p = c.requires.0 in
    (built_all _ _ _ _ _ c.loop-j-test.false (c.loop-j.invariant p.rule p.read)).1
