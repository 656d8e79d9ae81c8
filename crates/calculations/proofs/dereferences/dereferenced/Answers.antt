use Rattle.tm_laid.specs.Layouts.{laid_tree, is_alive, stands_at}
use Rattle.calculations.proofs.Calculating.{dereferenced_given}
use Rattle.calculations.proofs.dereferences.dereferenced.Goals as goal

pub returns : goal.returns
returns c =
    let n = c.no_classes.ensures in
    let tree = laid_tree c.args.followed.now.laid.now in
    dereferenced_given c.args.state.now _ c.args.source c.pointers_of-pointers.result.now c.in_ok-reached.reached.pointers c.from_pointers.ensures c.pointers_of-pointers.ensures c.objects.ensures.within c.objects-2.ensures.within
    (is_alive tree c.args.followed.now.path) (λ object offset. stands_at tree object offset c.args.followed.now.target) c.in_ok-reached.reached.may_fail c.in_ok-reached.ensures.pointers c.in_ok-reached.ensures.class (λ i. record (n i) { deref = c.in_ok-reached.reached.may_fail })
