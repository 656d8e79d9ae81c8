use Rattle.pointer_dom.specs.laws.ValueLaws.{values_order}
use Rattle.certificate_reading.proofs.assembled.is_same.Goals as goal

pub returns : goal.returns
returns c = λ t.
    values_order.antisymmetric c.args.one.now c.args.other.now c.is_nothing-one.ensures.value
    c.is_nothing-other.ensures.value (c.below.ensures.0 c.if-not-below.false) (c.below-2.ensures.0 t)
