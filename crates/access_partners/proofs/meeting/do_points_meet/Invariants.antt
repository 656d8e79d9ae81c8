use Rattle.std.proofs.Common.{◌≡◌, ◌<◌, ℕ, get_or}
use Rattle.access_partners.specs.declared.points.Point.{Point as APoint}
use Rattle.access_partners.specs.reading.Points.{way_at, Meets}
use Rattle.access_partners.proofs.meeting.do_points_meet.Given as goal

abbrev pub invariant-loop-point : goal.invariant-loop-point
invariant-loop-point l = (k : ℕ) (q : APoint) → k < l.point-index → get_or l.one_points k q ≡ q
    → Meets (way_at l.one q) q.cell l.other l.other_points → ⊥
