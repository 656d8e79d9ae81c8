use Rattle.std.proofs.Common.{ℕ, ◌-◌, ◌<◌, ◌≤◌, length, ℤ, ◌≤ℤ◌, ◌<ℤ◌, slice_index_or}
use Rattle.strided_dom.proofs.rounding.count_at_most.Given as goal

abbrev pub invariant-loop-low : goal.invariant-loop-low
invariant-loop-low l = record {
  ordered : l.low ≤ l.high;
  within : l.high ≤ length l.marks;
  before : (k : ℕ) (d : ℤ) → k < l.low → slice_index_or l.marks k d ≤ℤ l.v;
  after : (k : ℕ) (d : ℤ) → l.high ≤ k → k < length l.marks → l.v <ℤ slice_index_or l.marks k d;
}

abbrev pub decreases-loop-low : goal.decreases-loop-low
decreases-loop-low l = l.high - l.low
