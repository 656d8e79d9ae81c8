use Rattle.std.proofs.Common.{◌∙◌, get_or, sym, subst}
use Rattle.std.proofs.lemmas.Bool.{true≢false}
use Rattle.access_races.specs.declared.accesses.Way.{Way}
use Rattle.access_partners.specs.declared.points.Point.{Point}
use Rattle.access_partners.specs.reading.Points.{no_point, way_at, Meets}
use Rattle.access_partners.proofs.Racing.{none_with}
use Rattle.access_partners.proofs.meeting.do_points_meet.Goals as goal

pub loop-point-preserved : goal.loop-point-preserved
loop-point-preserved c =
    let points = c.args.one_points.now in
    let i = c.loop-point.point-index in
    let cell = (get_or points i no_point).cell in
    none_with (λ (q : Point). Meets (way_at c.args.one q) q.cell c.args.other c.args.other_points.now) points i
    c.loop-point-test.true c.loop-point.invariant
    (λ m. true≢false (sym (c.meets.ensures.1 (subst (λ (w : Way). Meets w cell c.args.other c.args.other_points.now)
    (sym c.way_at.ensures) m)) ∙ c.if-meets.false))
