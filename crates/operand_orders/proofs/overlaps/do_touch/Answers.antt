use Rattle.std.proofs.Common.{◌∙◌, sym, inl, inr}
use Rattle.std.proofs.lemmas.Bool.{true≢false}
use Rattle.access_races.proofs.Joins.{either}
use Rattle.operand_orders.proofs.overlaps.do_touch.Goals as goal

pub returns-then-overlap : goal.returns-then-overlap
returns-then-overlap c = (λ t. inl (c.overlap.ensures.0 t), λ h. c.if-overlap.true)

pub returns-else-overlap : goal.returns-else-overlap
returns-else-overlap c = (
  λ t. inr (c.are_seen.ensures.0 t),
  λ h. either (λ d. absurd (true≢false (sym (c.overlap.ensures.1 d) ∙ c.if-overlap.false)))
      (λ s. c.are_seen.ensures.1 s) h,
)
