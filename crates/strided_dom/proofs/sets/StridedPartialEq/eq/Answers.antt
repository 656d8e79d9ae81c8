use Rattle.strided_dom.proofs.Kept.{kept_fields, and_assoc}
use Rattle.strided_dom.proofs.sets.StridedPartialEq.eq.Goals as goal

pub returns : goal.returns
returns c =
    let left = kept_fields c.t1-1.inside c.args.self.now c.t1-1.invariant c.t1-1.view_is in
    let right = kept_fields c.t2-1.inside c.args.other.now c.t2-1.invariant c.t2-1.view_is in
    rw (left, right) (and_assoc _ _ _ _ _ _ c.eq.ensures c.and_eq.ensures c.and_eq-2.ensures)
