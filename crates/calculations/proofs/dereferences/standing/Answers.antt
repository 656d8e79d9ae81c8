use Rattle.std.proofs.Common.{true, sym, subst, refl}
use Rattle.strided_dom.specs.Progression.{IsHull}
use Rattle.pointer_dom.specs.Selections.{IsStanding}
use Rattle.calculations.specs.reading.Ends.{Stands}
use Rattle.calculations.proofs.StandingOffsets.{nothing_stands}
use Rattle.calculations.proofs.dereferences.standing.Goals as goal

pub returns-in-None-clause-hull : goal.returns-in-None-clause-hull
returns-in-None-clause-hull c =
    let There = Stands c.args.followed.now c.args.object in
    subst (IsHull (IsStanding There c.args.offsets.now)) (sym c.empty.ensures) (nothing_stands There c.args.offsets.now c.in-None.ensures).0

pub returns-in-None-clause-all : goal.returns-in-None-clause-all
returns-in-None-clause-all c = (nothing_stands (Stands c.args.followed.now c.args.object) c.args.offsets.now c.in-None.ensures).1 true refl
