use Rattle.std.proofs.Common.{◌≡◌, ◌∙◌, sym, ap, arith, []}
use Rattle.unit_plans.specs.Sights.{Stand, behind_all, sights_of}
use Rattle.unit_plans.specs.reading.Scans.{stand_of}
use Rattle.unit_plans.proofs.Ends.{no_more}
use Rattle.unit_plans.proofs.scans.sights_of.Goals as goal

pub returns : goal.returns
unfolding sights_of
returns c =
    let none : c.loop-left.left.now ≡ [] = no_more c.loop-left.left.now (omega (arith, c.in_default.len_below)) in
    sym (ap (λ (s : Stand). s.sights) (c.loop-left.invariant.seen
    ∙ ap (behind_all c.args.borders.now (stand_of c.loop-left.scan)) none))
