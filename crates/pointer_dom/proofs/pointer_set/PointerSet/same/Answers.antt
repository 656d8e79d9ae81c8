use Rattle.std.proofs.Common.{subst}
use Rattle.pointer_dom.specs.PointerSets.{IsPointers, IsPointersBelow}
use Rattle.pointer_dom.specs.laws.PointerLaws.{pointers_order}
use Rattle.pointer_dom.proofs.pointer_set.PointerSet.same.Goals as goal

pub returns : goal.returns
returns c =
    let one : IsPointers c.args.self.now = subst IsPointers c.self.view_is c.self.invariant in
    let other : IsPointers c.args.other.now = subst IsPointers c.other.view_is c.other.invariant in (
      λ e. pointers_order.antisymmetric c.args.self.now c.args.other.now one other (c.below.ensures.0 c.if-not-below.false) (c.below-2.ensures.0 e),
      λ e. c.below-2.ensures.1 (subst (λ p. IsPointersBelow p c.args.self.now) e (pointers_order.reflexive c.args.self.now one)),
    )
