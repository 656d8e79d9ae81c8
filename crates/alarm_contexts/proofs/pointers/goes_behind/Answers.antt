use Rattle.std.proofs.Common.{◌≡◌, ◌<◌, ◌^◌, pos, neg_ℤ, ◌-ℤ◌, ◌*ℤ◌, ◌<ℤ◌, to_z, of_z, not, ◌∙◌, arith}
use Rattle.std.specs.Int.{w128, saturate_signed}
use Rattle.std.proofs.lemmas.Int.{ints}
use Rattle.strided_dom.specs.Combinations.{IsProduct}
use Rattle.strided_dom.proofs.Reach.{kept}
use Rattle.pointer_dom.specs.Advances.{directed}
use Rattle.alarm_contexts.specs.Flaws.{HasAdvanced}
use Rattle.alarm_contexts.proofs.Wrong.{sat_read, directed_read, distance_read, more_read, first_greater}
use Rattle.alarm_contexts.proofs.Wrong.{second_greater, behind_is}
use Rattle.alarm_contexts.proofs.pointers.goes_behind.Goals as goal

pub returns-then-to_end-one : goal.returns-then-to_end-one
returns-then-to_end-one c =
    let o = c.args.offsets.now in
    let counts = c.args.counts.now in
    let first = c.args.ends.first in
    let last = c.args.ends.last in
    let forward = not c.args.minus in
    let cells = directed forward c.args.cells in
    let lo = c.lo.result in
    let hi = c.hi.result in
    let signed = directed_read forward c.args.cells c.signed_cells-signed.result c.ranges.cells.fits
    c.signed_cells-signed.ensures in
    let one : c.saturating_mul-one.result ≡ saturate_signed w128 (lo *ℤ cells) =
    c.saturating_mul-one.ensures ∙ (λ i. saturate_signed w128 (kept c.lo.ensures.in_reach i *ℤ signed i)) in
    let other : c.saturating_mul-other.result ≡ saturate_signed w128 (hi *ℤ cells) =
    c.saturating_mul-other.ensures ∙ (λ i. saturate_signed w128 (kept c.hi.ensures.in_reach i *ℤ signed i)) in
    let less : last < 2 ^ 127 = omega (arith, ints, c.from-2.type_inv, c.from-2.ensures) in
    let bound = distance_read c.size.result last c.from.result c.from-2.result c.size.type_inv less
    c.from.ensures c.from-2.ensures ∙ (λ i. pos (c.size.ensures i) -ℤ pos last) in
    let size = c.size.ensures in
    let few = c.size.type_inv in
    let low : neg_ℤ (pos (2 ^ 127)) <ℤ (pos o.size -ℤ pos last) = omega (arith, ints, few, less, size) in
    let high : (pos o.size -ℤ pos last) <ℤ pos (2 ^ 126) = omega (arith, ints, few, less, size) in
    let to_end = to_z w128 (of_z w128 (to_z w128 (of_z w128 c.from.result) -ℤ to_z w128 (of_z w128 c.from-2.result))) in
    first_greater (to_z w128 (of_z w128 c.saturating_mul-one.result))
    (to_z w128 (of_z w128 c.saturating_mul-other.result)) to_end (lo *ℤ cells) (hi *ℤ cells) (pos o.size -ℤ pos last)
    (HasAdvanced (λ v. pos o.size <ℤ v) (IsProduct counts cells) o)
    (behind_is o first last c.requires.ends counts lo hi cells c.lo.ensures.least c.hi.ensures.greatest o.size)
    (more_read _ to_end (lo *ℤ cells) (pos o.size -ℤ pos last) c.saturating_mul-one.result one
    (sat_read c.saturating_mul-one.result (lo *ℤ cells) one) bound low high)
    (more_read _ to_end (hi *ℤ cells) (pos o.size -ℤ pos last) c.saturating_mul-other.result other
    (sat_read c.saturating_mul-other.result (hi *ℤ cells) other) bound low high)
    c.if-to_end-one.true

pub returns-else-to_end-one : goal.returns-else-to_end-one
returns-else-to_end-one c =
    let o = c.args.offsets.now in
    let counts = c.args.counts.now in
    let first = c.args.ends.first in
    let last = c.args.ends.last in
    let forward = not c.args.minus in
    let cells = directed forward c.args.cells in
    let lo = c.lo.result in
    let hi = c.hi.result in
    let signed = directed_read forward c.args.cells c.signed_cells-signed.result c.ranges.cells.fits
    c.signed_cells-signed.ensures in
    let one : c.saturating_mul-one.result ≡ saturate_signed w128 (lo *ℤ cells) =
    c.saturating_mul-one.ensures ∙ (λ i. saturate_signed w128 (kept c.lo.ensures.in_reach i *ℤ signed i)) in
    let other : c.saturating_mul-other.result ≡ saturate_signed w128 (hi *ℤ cells) =
    c.saturating_mul-other.ensures ∙ (λ i. saturate_signed w128 (kept c.hi.ensures.in_reach i *ℤ signed i)) in
    let less : last < 2 ^ 127 = omega (arith, ints, c.from-2.type_inv, c.from-2.ensures) in
    let bound = distance_read c.size.result last c.from.result c.from-2.result c.size.type_inv less
    c.from.ensures c.from-2.ensures ∙ (λ i. pos (c.size.ensures i) -ℤ pos last) in
    let size = c.size.ensures in
    let few = c.size.type_inv in
    let low : neg_ℤ (pos (2 ^ 127)) <ℤ (pos o.size -ℤ pos last) = omega (arith, ints, few, less, size) in
    let high : (pos o.size -ℤ pos last) <ℤ pos (2 ^ 126) = omega (arith, ints, few, less, size) in
    let to_end = to_z w128 (of_z w128 (to_z w128 (of_z w128 c.from.result) -ℤ to_z w128 (of_z w128 c.from-2.result))) in
    second_greater (to_z w128 (of_z w128 c.saturating_mul-one.result))
    (to_z w128 (of_z w128 c.saturating_mul-other.result)) to_end (lo *ℤ cells) (hi *ℤ cells) (pos o.size -ℤ pos last)
    (HasAdvanced (λ v. pos o.size <ℤ v) (IsProduct counts cells) o)
    (behind_is o first last c.requires.ends counts lo hi cells c.lo.ensures.least c.hi.ensures.greatest o.size)
    (more_read _ to_end (lo *ℤ cells) (pos o.size -ℤ pos last) c.saturating_mul-one.result one
    (sat_read c.saturating_mul-one.result (lo *ℤ cells) one) bound low high)
    (more_read _ to_end (hi *ℤ cells) (pos o.size -ℤ pos last) c.saturating_mul-other.result other
    (sat_read c.saturating_mul-other.result (hi *ℤ cells) other) bound low high)
    c.if-to_end-one.false
