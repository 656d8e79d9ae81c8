use Rattle.std.proofs.Common.{IsTrue, false, inl, inr, refl}
use Rattle.transfer_int.proofs.operators.shifts_left_badly.Goals as goal

pub returns-then-has_bad_count : goal.returns-then-has_bad_count
returns-then-has_bad_count c = (λ _. (refl, inl (c.if-has_bad_count.ensures.0 refl)), λ _. refl)

pub returns-then-shifts_negative : goal.returns-then-shifts_negative
returns-then-shifts_negative c = (λ _. (refl, inr (refl, inl (c.if-shifts_negative.ensures.0 refl))), λ _. refl)

pub returns : goal.returns
returns c = (
  λ yes. (refl, inr (refl, inr (c.left_shifts_leave.ensures.0 yes))),
  λ bad. elim bad.1 [
    | inl count ↦ (let no : IsTrue false = c.if-has_bad_count.ensures.1 count in absurd cc)
    | inr left ↦ elim left.1 [
      | inl negative ↦ (let no : IsTrue false = c.if-shifts_negative.ensures.1 negative in absurd cc)
      | inr leaves ↦ c.left_shifts_leave.ensures.1 leaves
    ]
  ],
)
