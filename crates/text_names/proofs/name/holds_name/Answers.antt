use Rattle.std.proofs.Common.{arith, ◌≡◌, ◌+◌, ℕ, length, drop}
use mathlib.Core.Path.{sym, ap, subst, ◌∙◌}
use native.Mathlib.Nat.{add-zero, add_assoc}
use Rattle.text_strings.specs.InString.{Inside, content_from}
use Rattle.text_strings.proofs.Contents.{inside_content}
use Rattle.text_strings.proofs.Cursors.{inside_within, new_left}
use Rattle.text_names.specs.Named.{holds_name}
use Rattle.text_names.proofs.Names.{byte_differs, byte_same, ends_early, ends_there}
use Rattle.text_names.proofs.name.holds_name.Goals as goal

pub loop-k-init : goal.loop-k-init
loop-k-init c =
    let a = c.args in
    record {
      inside = subst (Inside a.s.now) (sym (add-zero a.i)) c.requires;
      same = ap (λ (n : ℕ). holds_name a.whole (content_from a.s.now n) a.name.now) (sym (add-zero a.i));
    }

pub overflow_add-b : goal.overflow_add-b
overflow_add-b c = omega (arith, inside_within _ _ c.loop-k.invariant.inside)

pub bounds-s-i : goal.bounds-s-i
bounds-s-i c = inside_within _ _ c.loop-k.invariant.inside

pub holds_left-requires : goal.holds_left-requires
holds_left-requires c =
    let p = c.loop-k.invariant in
    (record { bytes = p.inside.bytes; left = new_left _ _ _ _ c.new.ensures p.inside.here }, omega arith)

pub returns-then-b-eq92 : goal.returns-then-b-eq92
returns-then-b-eq92 c =
    let p = c.loop-k.invariant in
    c.holds_left.ensures _ (new_left _ _ _ _ c.new.ensures (inside_content _ _ p.inside)) ∙ sym p.same

pub returns-then-b-name : goal.returns-then-b-name
returns-then-b-name c =
    let p = c.loop-k.invariant in
    byte_differs _ _ _ p.inside _ _ c.loop-k-test.true c.if-b-eq92.false c.if-b-name.true ∙ sym p.same

pub returns-then-b-eq34 : goal.returns-then-b-eq34
returns-then-b-eq34 c =
    let p = c.loop-k.invariant in
    ends_early _ _ _ p.inside _ _ c.loop-k-test.true c.if-b-eq34.true ∙ sym p.same

pub loop-k-preserved : goal.loop-k-preserved
loop-k-preserved c =
    let a = c.args in
    let k = c.loop-k.k in
    let p = c.loop-k.invariant in
    let e = byte_same _ _ _ p.inside _ _ c.loop-k-test.true c.if-b-eq92.false c.if-b-eq34.false c.if-b-name.false in
    record {
      inside = subst (Inside a.s.now) (add_assoc a.i k 1) e.1;
      same = p.same ∙ e.0 ∙ ap (λ (n : ℕ). holds_name a.whole (content_from a.s.now n) (drop (k + 1) a.name.now)) (add_assoc a.i k 1);
    }

pub overflow_add-result : goal.overflow_add-result
overflow_add-result c = omega (arith, inside_within _ _ c.loop-k.invariant.inside)

pub bounds-s-i-2 : goal.bounds-s-i-2
bounds-s-i-2 c = omega (arith, inside_within _ _ c.loop-k.invariant.inside)

pub returns : goal.returns
returns c =
    let p = c.loop-k.invariant in
    let last : c.loop-k.k ≡ length c.args.name.now = omega arith in
    rw last at (ends_there _ _ _ p.inside _ _ c.loop-k-test.false ∙ sym p.same)
