use Rattle.std.proofs.Common.{◌∙◌, ◌<◌, sym, subst}
use Rattle.std.proofs.lemmas.Bool.{true≢false}
use Rattle.least_assignments.proofs.work_list.least_assignment.Goals as goal

pub settle-requires-clause-variables : goal.settle-requires-clause-variables
settle-requires-clause-variables g c κs within =
    let start = c.in_ok-start.ensures in
    start.0 ∙ c.variables.ensures.variables

pub settle-requires-clause-constraints : goal.settle-requires-clause-constraints
settle-requires-clause-constraints g c κs within =
    let pending = c.in_ok-pending.ensures in
    pending.0 ∙ c.constraints.ensures

pub settle-requires-clause-round : goal.settle-requires-clause-round
settle-requires-clause-round g c κs within =
    let start = c.in_ok-start.ensures in
    record { fits = λ i lt. rw (start.1 i) tt; round = λ i lt. rw (start.1 i) tt }

pub settle-requires-clause-done : goal.settle-requires-clause-done
settle-requires-clause-done g c κs within = λ k lt quiet.
    let pending = c.in_ok-pending.ensures in
    absurd (true≢false (sym (pending.1 k (subst (λ n. k < n) (sym c.constraints.ensures) lt)) ∙ quiet))
