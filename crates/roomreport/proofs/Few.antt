-- Judge tells no more pairs than 64 images have.
use Rattle.std.proofs.Common.{ℕ, ◌*◌, ◌≤◌, List, arith}
use Rattle.policy_marks.specs.Words.{Reports}
use Rattle.answer.specs.declared.Answer.{Answer}
use Rattle.policy.specs.Judge.{judge_number, held_pairs, judge_pairs}
use Rattle.policy.proofs.Admitting.{judge_pairs_small}

-- They fit a report of 8,064 bytes.
pub few : (buffer : List ℕ) (used size : ℕ) {before after : List ℕ} {r : Answer} → Reports (judge_number buffer used size) (held_pairs buffer used) before r after
    → 2 * r.value ≤ 8064
unfolding judge_pairs
few buffer used size k = omega (arith, k.pairs, judge_pairs_small buffer used size)
