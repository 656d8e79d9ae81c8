use Rattle.std.proofs.Common.{ℕ, ◌-◌, ◌<◌, ◌≤◌, length}
use Rattle.access_groups.specs.Order.{IsBefore}
use Rattle.access_partners.specs.reading.Accesses.{access_at}
use Rattle.access_partners.proofs.access_sites.first_not_before.Given as goal

abbrev pub invariant-loop-low : goal.invariant-loop-low
invariant-loop-low l = record {
  ordered : l.low ≤ l.high;
  within : l.high ≤ length l.accesses;
  before : (k : ℕ) → k < l.low → IsBefore (access_at l.accesses k) l.access;
  after : (k : ℕ) → l.high ≤ k → k < length l.accesses → IsBefore (access_at l.accesses k) l.access → ⊥;
}

abbrev pub decreases-loop-low : goal.decreases-loop-low
decreases-loop-low l = l.high - l.low
