use borrow.Author.Rules.{rules}
use native.Mathlib.Omega.{arith}
use Rattle.text_strings.proofs.Cursors.{gives_held, byte_within, gives_end, gives_escape, gives_plain, escape_lighter}
use Rattle.laws.proofs.Order.{false_true}
use Rattle.text_strings.proofs.Cursor.next.Statement.{statement}
use Rattle.text_strings.proofs.Cursor.next.Tie as tie

returns-then-from-count : tie.Need-returns-then-from-count
returns-then-from-count c = (λ x l. gives_held _ _ x l c.if-from-count.true, λ _. omega arith)

bounds-s-at : tie.Need-bounds-s-at
bounds-s-at c = byte_within _ _ c.if-from-count.false _ c.requires.left

returns-then-byte-eq34 : tie.Need-returns-then-byte-eq34
returns-then-byte-eq34 c = (λ x l. gives_end _ _ c.if-from-count.false x l c.if-byte-eq34.true, λ e. false_true e)

returns-then-byte-eq92 : tie.Need-returns-then-byte-eq92
returns-then-byte-eq92 c = (
  λ x l. gives_escape _ _ c.if-from-count.false x _ _ _ l c.read_escape.ensures
      c.from_escape.ensures,
  λ _. escape_lighter c.args.s.now
      c.args.self _ _ _ c.read_escape.ensures c.from_escape.ensures,
)

overflow_add-rest-2 : tie.Need-overflow_add-rest-2
overflow_add-rest-2 c = omega (arith, byte_within _ _ c.if-from-count.false _ c.requires.left)

returns : tie.Need-returns
returns c = (
  λ x l. gives_plain _ _ c.if-from-count.false x l c.if-byte-eq34.false c.if-byte-eq92.false,
  λ _. omega (arith, byte_within _ _ c.if-from-count.false _ c.requires.left),
)

pub next_spec : {M : Type 1} → statement M
next_spec =
    tie.close (tie.spec (λ c. search rules) (λ c. search rules) returns-then-from-count bounds-s-at returns-then-byte-eq34 (λ c κs. search rules) (λ c κs. search rules)
    returns-then-byte-eq92 overflow_add-rest-2 returns)
