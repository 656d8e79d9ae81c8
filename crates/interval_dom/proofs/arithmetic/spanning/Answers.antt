use Rattle.std.proofs.Common.{arith, ◌∙◌}
use Rattle.std.proofs.lemmas.Int.{ints}
use Rattle.interval_dom.specs.Rows.{least, greatest}
use Rattle.interval_dom.proofs.Corners.{same_span}
use Rattle.interval_dom.proofs.Ranges.{back, min_of, max_of}
use Rattle.interval_dom.proofs.arithmetic.spanning.Goals as goal

pub invariant_of-result : goal.invariant_of-result
invariant_of-result c = record { ordered = omega (arith, ints) }

pub returns : goal.returns
unfolding least greatest
returns c =
    let p = back _ c.ranges.p in
    let q = back _ c.ranges.q in
    let r = back _ c.ranges.r in
    let s = back _ c.ranges.s in
    same_span
    (back _ (record { sfits = c.min-3.type_inv })
    ∙ min_of c.min-3.ensures.value
    (back _ (record { sfits = c.min.type_inv }) ∙ min_of c.min.ensures.value p q)
    (back _ (record { sfits = c.min-2.type_inv }) ∙ min_of c.min-2.ensures.value r s))
    (back _ (record { sfits = c.max-3.type_inv })
    ∙ max_of c.max-3.ensures.value
    (back _ (record { sfits = c.max.type_inv }) ∙ max_of c.max.ensures.value p q)
    (back _ (record { sfits = c.max-2.type_inv }) ∙ max_of c.max-2.ensures.value r s))
