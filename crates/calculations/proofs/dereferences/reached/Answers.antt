use Rattle.calculations.specs.reading.Ends.{Alive, Stands}
use Rattle.pointer_dom.proofs.StandingFacts.{targets_are, all_reach}
use Rattle.calculations.proofs.dereferences.reached.Goals as goal

pub returns-clause-pointers : goal.returns-clause-pointers
returns-clause-pointers c =
    targets_are (Alive c.args.followed.now) (Stands c.args.followed.now) c.args.pointers.now c.objects.result.now c.objects.ensures.value
    c.in_ok-objects.objects c.from_parts.result c.in_ok-objects.ensures.objects c.from_parts.ensures

pub returns-clause-class : goal.returns-clause-class
returns-clause-class c =
    all_reach (Alive c.args.followed.now) (Stands c.args.followed.now) c.args.pointers.now c.objects.result.now c.objects.ensures.value
    c.has_null.result c.has_invalid.result c.in_ok-objects.all c.has_null.ensures c.has_invalid.ensures c.in_ok-objects.ensures.all
