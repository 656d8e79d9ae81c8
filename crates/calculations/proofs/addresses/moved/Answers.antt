use Rattle.calculations.proofs.Calculating.{moved_given}
use Rattle.calculations.proofs.addresses.moved.Goals as goal

pub returns : goal.returns
returns c =
    let n = c.no_classes.ensures in
    moved_given c.args.state.now _ c.args.source c.pointers_of-pointers.result.now c.in_ok-reached.reached.pointers c.from_pointers.ensures c.pointers_of-pointers.ensures c.objects.ensures.within c.objects-2.ensures.within
    c.args.forward c.args.cells c.args.count c.in_ok-reached.reached.may_fail c.numbers_of-counts.result c.numbers_of-counts.ensures c.in_ok-reached.ensures.pointers c.in_ok-reached.ensures.class (λ i. record (n i) { pointer = c.in_ok-reached.reached.may_fail })
