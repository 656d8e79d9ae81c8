-- Whether there is a mark in a range.
use Rattle.std.proofs.Common.{ℕ, ◌-◌, ◌<◌, ◌≤◌, sym, ◌∙◌, Bool, false, List}
use Rattle.std.proofs.Common.{length, arith}
use Rattle.std.proofs.lemmas.Bool.{true≢false, cases_lt}
use Rattle.std.proofs.lemmas.List.{get_or_past}
use Rattle.operand_orders.specs.reading.Marks.{IsMarked, IsLast, IsMarkedBetween}
use Rattle.access_races.proofs.Joins.{either}

module _ (marks : List Bool) where
  -- a number of the range is marked where the last of those below the end is not below the first
  module _ (first end count last : ℕ) (is : IsLast marks count last) (low : count ≤ end)
      (high : (k : ℕ) → count ≤ k → k < end → IsMarked marks k → ⊥) where
    pub marked_between : first < last → IsMarkedBetween marks first end
    marked_between lt = record {
      number = last - 1;
      from = omega (arith, lt);
      to = (let w = is.within in omega (arith, lt, w, low));
      marked = is.marked (last - 1) (omega (arith, lt));
    }

    pub last_behind : IsMarkedBetween marks first end → first < last
    last_behind h =
        let from = h.from in
        either (λ below. omega (arith, from, below))
        (λ le. either (λ (lt : h.number < count). absurd (is.none h.number le lt h.marked))
        (λ past. absurd (high h.number past h.to h.marked)) (cases_lt h.number count)) (cases_lt h.number last)

-- beyond all marks there is none
pub no_mark : (marks : List Bool) (k : ℕ) → length marks ≤ k → IsMarked marks k → ⊥
no_mark marks k le is = true≢false (sym is ∙ get_or_past marks k false le)
