use Rattle.calculations.proofs.Calculating.{part_given}
use Rattle.calculations.proofs.addresses.part.Goals as goal

pub returns : goal.returns
returns c =
    part_given c.args.state.now _ c.args.source c.pointers_of-pointers.result.now c.in_ok-parts.parts c.from_pointers.ensures c.pointers_of-pointers.ensures c.objects.ensures.within c.objects-2.ensures.within c.args.cells c.in_ok-parts.ensures c.no_classes.ensures
