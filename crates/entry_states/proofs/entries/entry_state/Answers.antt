use Rattle.std.proofs.Common.{◌∙◌, ◌<◌, length, sym, arith}
use Rattle.tm_laid.specs.Layouts.{laid_tree}
use Rattle.body_systems.specs.program_equations.Readings.{read_layout}
use Rattle.entry_states.specs.reading.Holdings.{held_value}
use Rattle.entry_states.proofs.States.{one_entered, one_passed}
use Rattle.entry_states.proofs.entries.entry_state.Goals.{then-is_reachable+in_ok-entry+in_ok-put, else-is_reachable}
use Rattle.entry_states.proofs.entries.entry_state.Goals as goal

pub loop-cell-preserved : goal.loop-cell-preserved
loop-cell-preserved c =
    let laid = read_layout (laid_tree c.args.laid.now) in
    let lt : c.loop-cell.cell < length laid.abstract_cells = (let a = c.loop-cell-test.true in let b = c.len-cell-end.ensures in let d = c.args.laid.now.abstract_cells.ok.0 in let f = c.requires.few in omega (arith, a, b, d, f)) in
    let shared = held_value c.args.holding.now in
    elim c.if-is_reachable.branch [
      | then-is_reachable+in_ok-entry+in_ok-put w ↦
          w.cells-is ∙ w.in_ok-put.ensures.written (λ e. e)
          ∙ one_entered laid c.args.task shared c.loop-cell.cell c.index.result.now c.loop-cell.cells w.in_ok-entry.entry
          lt c.index.ensures (sym c.is_reachable.ensures ∙ w.if-is_reachable.true) c.loop-cell.invariant w.in_ok-entry.ensures
      | else-is_reachable w ↦
          w.cells-is
          ∙ one_passed laid c.args.task shared c.loop-cell.cell c.index.result.now c.loop-cell.cells
          lt c.index.ensures (sym c.is_reachable.ensures ∙ w.if-is_reachable.false) c.loop-cell.invariant
    ]
