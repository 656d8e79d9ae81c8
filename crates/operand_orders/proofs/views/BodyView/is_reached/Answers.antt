use Rattle.std.proofs.Common.{refl, arith, ◌∙◌, sym}
use Rattle.std.proofs.lemmas.Bool.{true≢false}
use Rattle.operand_orders.specs.reading.Views.{solved}
use Rattle.operand_orders.proofs.Elements.{has_at}
use Rattle.operand_orders.proofs.Copies.{reached_by, not_reached}
use Rattle.operand_orders.proofs.views.BodyView.is_reached.Goals as goal

pub returns-then-has_state : goal.returns-then-has_state
returns-then-has_state c = (
  λ t. reached_by (solved c.args.self.now) c.args.edge c.copies_of-copy-items.result.now
      c.copies_of-copy-items.ensures _
      (has_at c.copies_of-copy-items.result.now c.loop-copy.copy-index 0 c.loop-copy-test.true)
      (sym c.has_state.ensures ∙ c.if-has_state.true),
  λ h. refl,
)

pub returns : goal.returns
returns c = (
  λ t. absurd (true≢false (sym t)),
  λ h. absurd (not_reached (solved c.args.self.now) c.args.edge c.copies_of-copy-items.result.now
      c.copies_of-copy-items.ensures
      c.loop-copy.copy-index (omega arith) c.loop-copy.invariant h),
)
