use Rattle.std.proofs.Common.{◌≡◌, ◌<◌, ◌^◌, pos, neg_ℤ, ◌-ℤ◌, ◌*ℤ◌, ◌<ℤ◌, to_z, of_z, not, ◌∙◌, arith}
use Rattle.std.specs.Int.{w128, saturate_signed}
use Rattle.std.proofs.lemmas.Int.{ints}
use Rattle.strided_dom.specs.Combinations.{IsProduct}
use Rattle.strided_dom.proofs.Reach.{kept}
use Rattle.pointer_dom.specs.Advances.{directed}
use Rattle.alarm_contexts.specs.Flaws.{HasAdvanced}
use Rattle.alarm_contexts.proofs.Wrong.{sat_read, directed_read, negative_read, less_read, first_less, second_less}
use Rattle.alarm_contexts.proofs.Wrong.{before_is}
use Rattle.alarm_contexts.proofs.pointers.goes_before.Goals as goal

pub returns-then-one-to_first : goal.returns-then-one-to_first
returns-then-one-to_first c =
    let o = c.args.offsets.now in
    let counts = c.args.counts.now in
    let first = c.args.ends.first in
    let last = c.args.ends.last in
    let forward = not c.args.minus in
    let cells = directed forward c.args.cells in
    let lo = c.lo.result in
    let hi = c.hi.result in
    let signed = directed_read forward c.args.cells c.signed_cells-signed.result c.ranges.cells.fits
    c.signed_cells-signed.ensures in
    let one : c.saturating_mul-one.result ≡ saturate_signed w128 (lo *ℤ cells) =
    c.saturating_mul-one.ensures ∙ (λ i. saturate_signed w128 (kept c.lo.ensures.in_reach i *ℤ signed i)) in
    let other : c.saturating_mul-other.result ≡ saturate_signed w128 (hi *ℤ cells) =
    c.saturating_mul-other.ensures ∙ (λ i. saturate_signed w128 (kept c.hi.ensures.in_reach i *ℤ signed i)) in
    let small : first < 2 ^ 127 = omega (arith, ints, c.from-to_first.type_inv, c.from-to_first.ensures) in
    let bound = negative_read first c.from-to_first.result small c.from-to_first.ensures in
    let low : neg_ℤ (pos (2 ^ 127)) <ℤ neg_ℤ (pos first) = omega (arith, ints, small) in
    let high : neg_ℤ (pos first) <ℤ pos (2 ^ 127) = omega (arith, ints) in
    let to_first = to_z w128 (of_z w128 (pos 0 -ℤ to_z w128 (of_z w128 c.from-to_first.result))) in
    first_less (to_z w128 (of_z w128 c.saturating_mul-one.result)) (to_z w128 (of_z w128 c.saturating_mul-other.result))
    to_first (lo *ℤ cells) (hi *ℤ cells) (neg_ℤ (pos first)) (HasAdvanced (λ v. v <ℤ pos 0) (IsProduct counts cells) o)
    (before_is o first last c.requires.ends counts lo hi cells c.lo.ensures.least c.hi.ensures.greatest)
    (less_read _ to_first (lo *ℤ cells) (neg_ℤ (pos first)) c.saturating_mul-one.result one
    (sat_read c.saturating_mul-one.result (lo *ℤ cells) one) bound low high)
    (less_read _ to_first (hi *ℤ cells) (neg_ℤ (pos first)) c.saturating_mul-other.result other
    (sat_read c.saturating_mul-other.result (hi *ℤ cells) other) bound low high)
    c.if-one-to_first.true

pub returns-else-one-to_first : goal.returns-else-one-to_first
returns-else-one-to_first c =
    let o = c.args.offsets.now in
    let counts = c.args.counts.now in
    let first = c.args.ends.first in
    let last = c.args.ends.last in
    let forward = not c.args.minus in
    let cells = directed forward c.args.cells in
    let lo = c.lo.result in
    let hi = c.hi.result in
    let signed = directed_read forward c.args.cells c.signed_cells-signed.result c.ranges.cells.fits
    c.signed_cells-signed.ensures in
    let one : c.saturating_mul-one.result ≡ saturate_signed w128 (lo *ℤ cells) =
    c.saturating_mul-one.ensures ∙ (λ i. saturate_signed w128 (kept c.lo.ensures.in_reach i *ℤ signed i)) in
    let other : c.saturating_mul-other.result ≡ saturate_signed w128 (hi *ℤ cells) =
    c.saturating_mul-other.ensures ∙ (λ i. saturate_signed w128 (kept c.hi.ensures.in_reach i *ℤ signed i)) in
    let small : first < 2 ^ 127 = omega (arith, ints, c.from-to_first.type_inv, c.from-to_first.ensures) in
    let bound = negative_read first c.from-to_first.result small c.from-to_first.ensures in
    let low : neg_ℤ (pos (2 ^ 127)) <ℤ neg_ℤ (pos first) = omega (arith, ints, small) in
    let high : neg_ℤ (pos first) <ℤ pos (2 ^ 127) = omega (arith, ints) in
    let to_first = to_z w128 (of_z w128 (pos 0 -ℤ to_z w128 (of_z w128 c.from-to_first.result))) in
    second_less (to_z w128 (of_z w128 c.saturating_mul-one.result)) (to_z w128 (of_z w128 c.saturating_mul-other.result))
    to_first (lo *ℤ cells) (hi *ℤ cells) (neg_ℤ (pos first)) (HasAdvanced (λ v. v <ℤ pos 0) (IsProduct counts cells) o)
    (before_is o first last c.requires.ends counts lo hi cells c.lo.ensures.least c.hi.ensures.greatest)
    (less_read _ to_first (lo *ℤ cells) (neg_ℤ (pos first)) c.saturating_mul-one.result one
    (sat_read c.saturating_mul-one.result (lo *ℤ cells) one) bound low high)
    (less_read _ to_first (hi *ℤ cells) (neg_ℤ (pos first)) c.saturating_mul-other.result other
    (sat_read c.saturating_mul-other.result (hi *ℤ cells) other) bound low high)
    c.if-one-to_first.false
