use Rattle.std.proofs.Common.{◌∙◌, arith}
use Rattle.std.specs.Int.{w128}
use Rattle.std.proofs.lemmas.Int.{ints, to_z-of_z}
use Rattle.std.proofs.lemmas.Result.{on_ok_weaker}
use Rattle.certificate_texts.proofs.Adding.{as_number, words_then}
use Rattle.certificate_texts.proofs.pages.Page.push_set.Goals as goal

pub returns : goal.returns
returns c =
    let low = to_z-of_z w128 c.lo.result (omega (arith, ints, c.lo.ensures.in_reach)) in
    let high = to_z-of_z w128 c.hi.result (omega (arith, ints, c.hi.ensures.in_reach)) in
    let stride = to_z-of_z w128 c.stride.result (omega (arith, ints, c.stride.ensures.value, c.stride.ensures.bound)) in
    on_ok_weaker c.push_number-3.result
    (λ h. words_then (words_then (as_number c.in_ok-push_number.ensures (low ∙ c.lo.ensures.value))
    (as_number c.in_ok-push_number-2.ensures (high ∙ c.hi.ensures.value))) (as_number h (stride ∙ c.stride.ensures.value)))
    c.push_number-3.ensures
