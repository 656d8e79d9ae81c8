use Rattle.std.proofs.Common.{arith, sym, ◌∙◌}
use Rattle.tm_laid.specs.Layouts.{laid_tree}
use Rattle.body_slots.proofs.Small.{seen_small}
use Rattle.body_slots.proofs.slots.seen_cells.Goals as goal

pub returns-clause-small : goal.returns-clause-small
returns-clause-small c = λ x h.
    let lt = seen_small (laid_tree c.args.laid.now) c.args.task c.loop-cell.cell x
    (sym (c.loop-cell.invariant x) ∙ (sym (c.from_cells.ensures x) ∙ h)) in
    omega (arith, lt, c.requires)
