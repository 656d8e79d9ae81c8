use Rattle.std.proofs.Common.{sym, subst}
use Rattle.strided_dom.specs.Progression.{IsExactly}
use Rattle.pointer_dom.specs.Equality.{IsEqualityValue}
use Rattle.pointer_dom.proofs.EqualityFacts.{equal_is, unequal_is}
use Rattle.pointer_dom.proofs.comparisons.equality.Goals as goal

pub returns-then-equal : goal.returns-then-equal
returns-then-equal c =
    subst (λ b. IsExactly (IsEqualityValue b c.args.p.now c.args.q.now) c.truths.result) (sym c.if-equal.true)
    (equal_is c.args.p.now c.args.q.now c.may_be_same-same.result c.may_differ-differ.result c.may_be_same-same.ensures c.may_differ-differ.ensures c.truths.result c.truths.ensures)

pub returns-else-equal : goal.returns-else-equal
returns-else-equal c =
    subst (λ b. IsExactly (IsEqualityValue b c.args.p.now c.args.q.now) c.truths-else-equal.result) (sym c.if-equal.false)
    (unequal_is c.args.p.now c.args.q.now c.may_be_same-same.result c.may_differ-differ.result c.may_be_same-same.ensures c.may_differ-differ.ensures c.truths-else-equal.result c.truths-else-equal.ensures)
