use Rattle.std.proofs.Common.{◌∙◌, ◌∷◌, [], ◌++◌, get_or, take, sym, subst}
use Rattle.std.proofs.lemmas.List.{take_all, take_more}
use Rattle.tm_laid.specs.Layouts.{laid_tree}
use Rattle.edge_actions.specs.Layouts.{is_shared_cell}
use Rattle.edge_effects.proofs.Common.{something}
use Rattle.memory_effects.specs.reading.Changes.{IsWrittenAt}
use Rattle.memory_effects.proofs.Contributing.{written_start, written_all, written_none}
use Rattle.memory_effects.proofs.contributions.written_cells.Goals as goal

pub returns-then-is_nothing : goal.returns-then-is_nothing
returns-then-is_nothing c =
    written_none (is_shared_cell (laid_tree c.args.view.now.laid.now)) c.args.value.now c.args.cells.now c.new-added.result (c.is_nothing.ensures.nothing.0 c.if-is_nothing.true) c.new-added.ensures

pub loop-cell-init : goal.loop-cell-init
loop-cell-init c = written_start (is_shared_cell (laid_tree c.args.view.now.laid.now)) c.args.value.now c.new-added.result c.new-added.ensures

pub loop-cell-preserved : goal.loop-cell-preserved
loop-cell-preserved c =
    let cells = c.args.cells.now in
    let i = c.loop-cell.cell-index in
    subst (λ xs. IsWrittenAt (is_shared_cell (laid_tree c.args.view.now.laid.now)) c.args.value.now xs c.in_ok-added.added) (sym (take_more cells i 0 c.loop-cell-test.true))
    (c.in_ok-added.ensures (take i cells) c.loop-cell.invariant)

pub returns : goal.returns
returns c =
    let shared = is_shared_cell (laid_tree c.args.view.now.laid.now) in
    let v = c.args.value.now in
    let cells = c.args.cells.now in
    written_all shared v cells c.loop-cell.added (something c.is_nothing.result v c.is_nothing.ensures.nothing c.if-is_nothing.false)
    (subst (λ xs. IsWrittenAt shared v xs c.loop-cell.added) (take_all c.loop-cell.cell-index cells c.loop-cell-test.false) c.loop-cell.invariant)
