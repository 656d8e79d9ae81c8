use Rattle.std.proofs.Common.{ℕ, ◌-◌, ◌<◌, ◌≤◌, length, get_or}
use Rattle.access_partners.specs.reading.Points.{no_point}
use Rattle.access_partners.proofs.meeting.first_from.Given as goal

abbrev pub invariant-loop-low : goal.invariant-loop-low
invariant-loop-low l = record {
  ordered : l.low ≤ l.high;
  within : l.high ≤ length l.points;
  before : (k : ℕ) → k < l.low → (let q = get_or l.points k no_point in q.cell < l.cell);
  after : (k : ℕ) → l.high ≤ k → k < length l.points → (let q = get_or l.points k no_point in l.cell ≤ q.cell);
}

abbrev pub decreases-loop-low : goal.decreases-loop-low
decreases-loop-low l = l.high - l.low
