use Rattle.strided_dom.specs.Progression.{empty}
use Rattle.strided_dom.proofs.Members.{below_antisym, not_in_empty}
use Rattle.filters.proofs.laws.strided_sets.Goals as goal

pub returns-clause-grows : goal.returns-clause-grows
returns-clause-grows c = λ op a b l r a' b' l' r' h k p q. (
  h.of_left.least l' (λ v x. k.of_left.complete v (record { member = p.within v x.member; partner = x.partner; in_other = q.within x.partner x.in_other; related = x.related })),
  h.of_right.least r' (λ v x. k.of_right.complete v (record { member = q.within v x.member; partner = x.partner; in_other = p.within x.partner x.in_other; related = x.related })),
)

pub returns-clause-empty_left : goal.returns-clause-empty_left
returns-clause-empty_left c = λ op b l r h. (
  below_antisym l empty (h.of_left.least empty (λ v x. x.member)) (record { within = λ v x. absurd (not_in_empty v x) }),
  below_antisym r empty (h.of_right.least empty (λ v x. absurd (not_in_empty x.partner x.in_other))) (record { within = λ v x. absurd (not_in_empty v x) }),
)

pub returns-clause-empty_right : goal.returns-clause-empty_right
returns-clause-empty_right c = λ op a l r h. (
  below_antisym l empty (h.of_left.least empty (λ v x. absurd (not_in_empty x.partner x.in_other))) (record { within = λ v x. absurd (not_in_empty v x) }),
  below_antisym r empty (h.of_right.least empty (λ v x. x.member)) (record { within = λ v x. absurd (not_in_empty v x) }),
)

pub returns-clause-one : goal.returns-clause-one
returns-clause-one c = λ op a b l r l' r' h k. (
  below_antisym l l' (h.of_left.least l' k.of_left.complete) (k.of_left.least l h.of_left.complete),
  below_antisym r r' (h.of_right.least r' k.of_right.complete) (k.of_right.least r h.of_right.complete),
)
