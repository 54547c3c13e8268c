-- `text_names::head::compare_headed` meets its contract: different heads have the order of the contents. Assumes nothing.
use native.Mathlib.Omega.{arith}
use borrow.Author.Rules.{rules}
use Rattle.text_strings.proofs.Contents.{inside_content}
use Rattle.text_names.proofs.Heads.{heads_less, heads_greater}
use Rattle.text_names.proofs.head.compare_headed.Statement.{statement}
use Rattle.text_names.proofs.head.compare_headed.Tie as tie

returns-then-g-h : tie.Need-returns-then-g-h
returns-then-g-h c =
    let a = c.before.before.before in
    let p = a.requires in
    heads_less _ _ _ _ (λ k. omega (arith, c.shared_slice_known-1.given k)) (λ k. omega (arith, c.shared_slice_known-2-1.given k))
    p.0 p.1
    (omega (arith, c.if-g-h.true, p.2, p.3))

returns-then-h-g : tie.Need-returns-then-h-g
returns-then-h-g c =
    let a = c.before.before.before.before in
    let p = a.requires in
    heads_greater _ _ _ _ (λ k. omega (arith, c.shared_slice_known-1.given k))
    (λ k. omega (arith, c.shared_slice_known-2-1.given k)) p.0 p.1
    (omega (arith, c.if-h-g.true, p.2, p.3))

returns : tie.Need-returns
returns c =
    let p = c.requires in
    c.compare.ensures _ _ (inside_content _ _ p.0) (inside_content _ _ p.1)

pub compare_headed_spec : {M : Type 1} → statement M
compare_headed_spec =
    tie.close (tie.spec returns-then-g-h returns-then-h-g (λ c κs. search rules) returns)
