use Rattle.std.proofs.Common.{ℕ, ◌-◌, ◌<◌, ◌≤◌, length}
use Rattle.operand_orders.specs.reading.Pairs.{IsBefore, pair, pair_at}
use Rattle.operand_orders.proofs.pairs.first_not_before.Given as goal

abbrev pub invariant-loop-low : goal.invariant-loop-low
invariant-loop-low l = record {
  ordered : l.low ≤ l.high;
  within : l.high ≤ length l.pairs;
  before : (k : ℕ) → k < l.low → IsBefore (pair_at l.pairs k) (pair l.first l.second);
  after : (k : ℕ) → l.high ≤ k → k < length l.pairs → IsBefore (pair_at l.pairs k) (pair l.first l.second) → ⊥;
}

abbrev pub decreases-loop-low : goal.decreases-loop-low
decreases-loop-low l = l.high - l.low
