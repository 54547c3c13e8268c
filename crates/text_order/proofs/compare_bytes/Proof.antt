use borrow.Author.Rules.{rules}
use Prim.Native.Nat.{ℕ, ◌+◌, ◌-◌}
use mathlib.Core.Path.{sym, subst, subst₂, ◌∙◌}
use native.Mathlib.Omega.{arith}
use native.Mathlib.Nat.{add-zero, add_assoc}
use lib.ListN.{length}
use Rattle.text_strings.specs.InString.{InString, Inside}
use Rattle.text_strings.proofs.Cursors.{new_left, inside_within, inside_next}
use Rattle.text_order.proofs.Orders.{Tracks, either_false, bytes_differ, both_close, both_plain}
use Rattle.text_order.proofs.Alike.{Both, both_start}
use Rattle.text_order.proofs.Twins.{twin_within, twins}
use Rattle.text_order.proofs.compare_bytes.Statement.{statement}
use Rattle.text_order.proofs.compare_bytes.Tie as tie

abbrev invariant-loop : tie.invariant-loop-k
invariant-loop s i t j k₀ k = Both (InString s i) (InString t j) s (i + k) t (j + k)

abbrev decreases-loop : tie.decreases-loop-k
decreases-loop s i t j k₀ k = length s - (i + k)

loop-k-init : tie.Need-loop-k-init invariant-loop decreases-loop
loop-k-init c =
    let a = c.before.before in
    rw (add-zero a.args.i, add-zero a.args.j) (both_start _ _ _ _ a.requires.0 a.requires.1)

overflow_add-x : tie.Need-overflow_add-x invariant-loop decreases-loop
overflow_add-x c = omega (arith, inside_within _ _ c.loop-k.invariant.0)

bounds-s-i : tie.Need-bounds-s-i invariant-loop decreases-loop
bounds-s-i c = inside_within _ _ c.loop-k.invariant.0

overflow_add-y : tie.Need-overflow_add-y invariant-loop decreases-loop
overflow_add-y c = omega (arith, inside_within _ _ c.loop-k.invariant.1)

bounds-t-j : tie.Need-bounds-t-j invariant-loop decreases-loop
bounds-t-j c = inside_within _ _ c.loop-k.invariant.1

overflow_add-i : tie.Need-overflow_add-i invariant-loop decreases-loop
overflow_add-i c = omega (arith, inside_within _ _ c.loop-k.invariant.0)

overflow_add-j : tie.Need-overflow_add-j invariant-loop decreases-loop
overflow_add-j c = omega (arith, inside_within _ _ c.loop-k.invariant.1)

same_escape-requires : tie.Need-same_escape-requires invariant-loop decreases-loop
same_escape-requires c κs = let inv = c.loop-k.invariant in (inv.0, inv.1)

overflow_add-k : tie.Need-overflow_add-k invariant-loop decreases-loop
overflow_add-k c =
    let inv = c.loop-k.invariant in
    omega (arith, twin_within _ _ _ _ inv.0 inv.1 (sym c.same_escape.ensures ∙ c.if-same_escape.true))

loop-k-smaller-then-same_escape : tie.Need-loop-k-smaller-then-same_escape invariant-loop decreases-loop
loop-k-smaller-then-same_escape c =
    let inv = c.loop-k.invariant in
    omega (arith, inside_within _ _ inv.0)

loop-k-preserved-then-same_escape : tie.Need-loop-k-preserved-then-same_escape invariant-loop decreases-loop
loop-k-preserved-then-same_escape c =
    let l = c.before.before.before.before.before.before in
    let a = l.args in
    let P = InString a.s.now a.i in
    let Q = InString a.t.now a.j in
    let k = l.loop-k.k in
    let inv = l.loop-k.invariant in
    subst₂ (λ (m n : ℕ). Both P Q a.s.now m a.t.now n) (add_assoc a.i k 2) (add_assoc a.j k 2)
    (twins a.s.now a.t.now (a.i + k) (a.j + k) inv.0 inv.1 (sym c.same_escape.ensures ∙ c.if-same_escape.true) P Q inv)

overflow_add-i-then-either_escapes : tie.Need-overflow_add-i-then-either_escapes invariant-loop decreases-loop
overflow_add-i-then-either_escapes c = omega (arith, inside_within _ _ c.loop-k.invariant.0)

overflow_add-j-then-either_escapes : tie.Need-overflow_add-j-then-either_escapes invariant-loop decreases-loop
overflow_add-j-then-either_escapes c = omega (arith, inside_within _ _ c.loop-k.invariant.1)

compare_cursors-requires : tie.Need-compare_cursors-requires invariant-loop decreases-loop
compare_cursors-requires c κs =
    let inv = c.loop-k.invariant in (
      record { bytes = inv.0.bytes; left = new_left _ _ _ _ c.new.ensures inv.0.here },
      record { bytes = inv.1.bytes; left = new_left _ _ _ _ c.new-then-either_escapes.ensures inv.1.here },
    )

returns-then-either_escapes : tie.Need-returns-then-either_escapes invariant-loop decreases-loop
returns-then-either_escapes c =
    let inv = c.loop-k.invariant in
    λ x y p q. let k = inv.2 x y p q in
    c.compare_cursors.ensures k.0 k.1 (new_left _ _ _ _ c.new.ensures k.2) (new_left _ _ _ _ c.new-then-either_escapes.ensures k.3)
    ∙ sym k.4

returns-then-x-y : tie.Need-returns-then-x-y invariant-loop decreases-loop
returns-then-x-y c =
    let e = either_false _ _ (sym c.either_escapes.ensures ∙ c.if-either_escapes.false) in
    λ x y p q. c.differ.ensures ∙ bytes_differ _ _ _ _ c.loop-k.invariant.2 e.0 e.1
    c.if-x-y.true x y p q

returns-then-is_closed : tie.Need-returns-then-is_closed invariant-loop decreases-loop
returns-then-is_closed c = both_close _ _ _ _ c.loop-k.invariant.2 c.if-x-y.false c.if-is_closed.true

overflow_add-k-in-loop-k : tie.Need-overflow_add-k-in-loop-k invariant-loop decreases-loop
overflow_add-k-in-loop-k c = omega (arith, inside_within _ _ c.loop-k.invariant.0)

loop-k-smaller : tie.Need-loop-k-smaller invariant-loop decreases-loop
loop-k-smaller c = omega (arith, inside_within _ _ c.loop-k.invariant.0)

loop-k-preserved : tie.Need-loop-k-preserved invariant-loop decreases-loop
loop-k-preserved c =
    let a = c.args in
    let k = c.loop-k.k in
    let inv = c.loop-k.invariant in
    let e = either_false _ _ (sym c.either_escapes.ensures ∙ c.if-either_escapes.false) in
    let f = c.if-x-y.false in (
      subst (Inside a.s.now) (add_assoc a.i k 1) (inside_next _ _ inv.0 c.if-is_closed.false e.0),
      subst (Inside a.t.now) (add_assoc a.j k 1) (inside_next _ _ inv.1 (λ h. c.if-is_closed.false (f ∙ h)) e.1),
      subst₂ (λ (m n : ℕ). Tracks (InString a.s.now a.i) (InString a.t.now a.j) (InString a.s.now m) (InString a.t.now n))
          (add_assoc a.i k 1) (add_assoc a.j k 1)
          (both_plain _ _ _ _ inv.2 e.0 e.1 f c.if-is_closed.false),
    )

pub compare_bytes_spec : {M : Type 1} → statement M
compare_bytes_spec =
    tie.close (tie.spec invariant-loop decreases-loop loop-k-init overflow_add-x bounds-s-i overflow_add-y bounds-t-j (λ c κs. search rules) overflow_add-i
    overflow_add-j same_escape-requires overflow_add-k loop-k-smaller-then-same_escape loop-k-preserved-then-same_escape overflow_add-i-then-either_escapes (λ c κs. search rules) overflow_add-j-then-either_escapes (λ c κs. search rules)
    compare_cursors-requires returns-then-either_escapes (λ c κs. search rules) returns-then-x-y returns-then-is_closed overflow_add-k-in-loop-k loop-k-smaller loop-k-preserved)
