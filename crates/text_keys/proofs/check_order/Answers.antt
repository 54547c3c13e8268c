use Rattle.std.proofs.Common.{arith, ◌≡◌, ◌+◌, ◌-◌, ◌<◌, ◌≤◌, ◌&&◌, ℕ, List, Bool, length, drop}
use mathlib.Core.Path.{refl, sym, ap, ◌∙◌}
use borrow.Author.Tests.{not-true, not-false}
use native.Mathlib.Nat.{zero-max}
use lib.ListN.{get_or, length-drop}
use Rattle.laws.proofs.Order.{false_true}
use Rattle.text_strings.specs.InString.{key_le}
use Rattle.text_keys.specs.Keys.{rising_keys}
use Rattle.text_keys.proofs.Keys.{keys_get}
use Rattle.text_keys.proofs.Orders.{rising_step, rising_short}
use Rattle.text_keys.proofs.Repeats.{next_rising, next_step, next_short}
use Rattle.text_keys.proofs.check_order.Goals as goal

pub loop-at-init : goal.loop-at-init
loop-at-init c = record { rising = refl; most = zero-max _ }

pub check_pair-pair-requires : goal.check_pair-pair-requires
check_pair-pair-requires c = (keys_get c.requires _ (omega arith), keys_get c.requires _ c.loop-at-test.true)

-- the key in front of place i and the one there, and what the rest tells
step : (s keys : List ℕ) (i : ℕ) (b : Bool) → 1 ≤ i → i < length keys → b ≡ key_le s (get_or keys (i - 1) 0) (get_or keys i 0)
    → rising_keys s (drop (i - 1) keys) ≡ rising_keys s keys → (b && rising_keys s (drop i keys)) ≡ rising_keys s keys
step s keys i b f h e p =
    let back : i - 1 + 1 ≡ i = omega arith in
    ap (λ (x : Bool). x && rising_keys s (drop i keys)) e ∙ sym (rw back at (rising_step s keys (i - 1) (omega arith))) ∙ p

pub returns-then-not-pair : goal.returns-then-not-pair
returns-then-not-pair c =
    let l = c.loop-at in
    let e = not-true _ c.if-not-pair.true in
    let t = step c.args.s.now c.args.keys.now l.at c.check_pair-pair.result.rising l.auto.at c.loop-at-test.true c.check_pair-pair.ensures.1 l.invariant.rising in
    record {
      rising_value = e ∙ rw e at t;
      left_value = λ f. false_true (sym e ∙ f);
    }

pub loop-at-preserved : goal.loop-at-preserved
loop-at-preserved c =
    let l = c.loop-at in
    let s = c.args.s.now in
    let keys = c.args.keys.now in
    let e = not-false _ c.if-not-pair.false in
    let back : l.at - 1 + 1 ≡ l.at = omega arith in
    let same : l.at + 1 - 1 ≡ l.at = omega arith in
    let t = step s keys l.at c.check_pair-pair.result.rising l.auto.at c.loop-at-test.true c.check_pair-pair.ensures.1 l.invariant.rising in
    record {
      rising = rw same (rw e at t);
      most = rw same (rw back at (next_step s keys (l.at - 1) l.most _ _ (omega arith) c.max-most.ensures (rw back c.check_pair-pair.ensures.0) l.invariant.most));
    }

pub returns : goal.returns
returns c =
    let l = c.loop-at in
    let s = c.args.s.now in
    let keys = c.args.keys.now in
    let h : length (drop (l.at - 1) keys) ≤ 1 = rw length-drop (omega arith) in
    let e = sym (rising_short s (drop (l.at - 1) keys) h) ∙ l.invariant.rising in
    record {
      rising_value = e;
      left_value = λ f. omega (arith, next_short s (drop (l.at - 1) keys) h, l.invariant.most, next_rising s keys (sym e));
    }
