use Rattle.std.proofs.Common.{◌∙◌, refl, sym, arith}
use Rattle.std.proofs.lemmas.Bool.{true≢false}
use Rattle.operand_orders.specs.declared.pairs.Pair.{Pair}
use Rattle.operand_orders.specs.reading.Operands.{HasMore}
use Rattle.operand_orders.specs.reading.Pairs.{pair}
use Rattle.operand_orders.specs.reading.Views.{solved}
use Rattle.operand_orders.proofs.Elements.{has_at}
use Rattle.operand_orders.proofs.MoreRead.{none_more, more_loaded, none_loaded}
use Rattle.operand_orders.proofs.order.loads_more.Goals as goal

pub loop-load-preserved : goal.loop-load-preserved
loop-load-preserved c =
    none_more (λ (p : Pair). HasMore (solved c.args.view) c.args.first.first c.args.second.first p.second)
    c.within-load-items.result.now c.loop-load.load-index (pair 0 0) c.loop-load-test.true c.loop-load.invariant
    (λ h. true≢false (sym (c.in_ok-more.ensures.1 h) ∙ c.if-more.false))

pub returns-then-more : goal.returns-then-more
returns-then-more c = (
  λ t. more_loaded (solved c.args.view) c.args.touches.now c.requires.touches c.args.first c.args.second
      c.within-load-items.result.now c.within-load-items.ensures _
      (has_at c.within-load-items.result.now c.loop-load.load-index (pair 0 0) c.loop-load-test.true)
      (c.in_ok-more.ensures.0 c.if-more.true),
  λ h. refl,
)

pub returns : goal.returns
returns c = (
  λ t. absurd (true≢false (sym t)),
  λ h. absurd (none_loaded (solved c.args.view) c.args.touches.now c.requires.touches c.args.first c.args.second
      c.within-load-items.result.now c.within-load-items.ensures c.loop-load.load-index (omega arith)
      c.loop-load.invariant h),
)
