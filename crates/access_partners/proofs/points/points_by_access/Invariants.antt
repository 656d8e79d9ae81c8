use Rattle.std.proofs.Common.{◌≡◌, ◌<◌, ℕ, length}
use Rattle.access_races.specs.reading.Ways.{list_at}
use Rattle.access_partners.specs.reading.Points.{ArePointsOf}
use Rattle.access_partners.proofs.points.points_by_access.Given as goal

abbrev pub invariant-loop-at : goal.invariant-loop-at
invariant-loop-at l = record {
  count : length l.points.items ≡ l.at;
  each : (i : ℕ) → i < l.at → ArePointsOf (list_at l.lists i) (list_at l.points.items i);
}
