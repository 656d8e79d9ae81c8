use Rattle.std.proofs.Common.{⊎_elim, inl, inr, refl}
use Rattle.strided_dom.proofs.Spans.{exactly_empty}
use Rattle.transfer_int.proofs.Comparing.{one_answer}
use Rattle.transfer_int.proofs.comparisons.truth_values.Goals as goal

pub returns-in-true-false : goal.returns-in-true-false
returns-in-true-false c =
    one_answer c.args.may_fail c.args.may_hold 0 _ c.one.ensures (λ v p. ⊎_elim (λ h. h.1) (λ h. absurd (let e = h.0 in cc)) p) (inl (c.in-true-false.is-0, refl))

pub returns-in-false-true : goal.returns-in-false-true
returns-in-false-true c =
    one_answer c.args.may_fail c.args.may_hold 1 _ c.one-in-false-true.ensures (λ v p. ⊎_elim (λ h. absurd (let e = h.0 in cc)) (λ h. h.1) p) (inr (c.in-false-true.is-1, refl))

pub returns-in-false-false : goal.returns-in-false-false
returns-in-false-false c = exactly_empty _ _ c.empty.ensures (λ v p. ⊎_elim (λ h. (let e = h.0 in absurd cc)) (λ h. (let e = h.0 in absurd cc)) p)
