use Rattle.std.proofs.Common.{◌∙◌, ap, refl, sym, arith}
use Rattle.std.proofs.lemmas.Bool.{true≢false}
use Rattle.std.specs.FinMap.{entries}
use Rattle.operand_orders.specs.reading.Views.{solved}
use Rattle.operand_orders.proofs.Leaving.{stored_by, stored_none}
use Rattle.operand_orders.proofs.others.is_stored_by_others.Goals as goal

pub returns-then-is_of_other : goal.returns-then-is_of_other
returns-then-is_of_other c = (
  λ t. stored_by (solved c.args.view) c.args.view.store.now.weak refl c.args.cell c.entries-tasks.result.now
      (c.entries-tasks.ensures ∙ ap entries c.weak.ensures) c.loop-index.index c.index-tasks-index.result (omega arith)
      c.index-tasks-index.is (c.is_of_other.ensures.0 c.if-is_of_other.true),
  λ h. refl,
)

pub returns : goal.returns
returns c = (
  λ t. absurd (true≢false (sym t)),
  λ h. absurd (stored_none (solved c.args.view) c.args.view.store.now.weak refl c.args.cell c.entries-tasks.result.now
      (c.entries-tasks.ensures ∙ ap entries c.weak.ensures) c.loop-index.index (omega arith) c.loop-index.invariant h),
)
