use Rattle.std.proofs.Common.{◌∙◌, sym}
use Rattle.tm_laid.specs.Layouts.{laid_tree}
use Rattle.edge_actions.specs.Layouts.{is_shared_cell}
use Rattle.memory_effects.proofs.Joining.{joined_same}
use Rattle.memory_effects.proofs.writes.joined.Goals as goal

pub returns-then-below : goal.returns-then-below
returns-then-below c =
    joined_same c.args.view.now.held c.args.value.now c.is_nothing-new.ensures.value (is_shared_cell (laid_tree c.args.view.now.laid.now) c.args.cell) c.args.entry.now c.is_nothing-own.ensures.value
    (sym c.with_held-pending.ensures ∙ c.if-pending-entry.true) (c.below.ensures.0 c.if-below.true)
