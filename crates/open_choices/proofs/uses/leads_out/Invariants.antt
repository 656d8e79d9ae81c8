use Rattle.std.proofs.Common.{ℕ}
use Rattle.pointer_dom.specs.OffsetSets.{OffsetSet}
use Rattle.operand_orders.specs.Reached.{IsOpen}
use Rattle.operand_orders.specs.reading.Views.{solved}
use Rattle.open_choices.proofs.Searching.{NoneSo}
use Rattle.open_choices.proofs.uses.leads_out.Given as goal

abbrev pub invariant-loop-object : goal.invariant-loop-object
invariant-loop-object l =
    NoneSo (λ (e : ℕ × OffsetSet). IsOpen (solved l.view) l.edge e.0 → ⊥) l.object-items l.object-index
