-- The keys before `at` are in order, and what stands in front of `at` tells the rest.
use Rattle.std.proofs.Common.{◌≡◌, ◌-◌, max, drop}
use Rattle.text_keys.specs.Keys.{rising_keys}
use Rattle.text_keys.proofs.Repeats.{next_left}
use Rattle.text_keys.proofs.check_order.Given as goal

abbrev pub invariant-loop-at : goal.invariant-loop-at
invariant-loop-at l =
    record {
      rising : rising_keys l.s (drop (l.at - 1) l.keys) ≡ rising_keys l.s l.keys;
      most : max l.most (next_left l.s (drop (l.at - 1) l.keys)) ≡ next_left l.s l.keys;
    }
