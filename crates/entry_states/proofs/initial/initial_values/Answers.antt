use Rattle.std.proofs.Common.{arith, ap}
use Rattle.tm_laid.specs.Layouts.{laid_tree}
use Rattle.body_systems.specs.program_equations.Readings.{read_layout}
use Rattle.entry_states.proofs.Joins.{none_joined, next_joined, all_joined, reaches}
use Rattle.entry_states.proofs.initial.initial_values.Goals as goal

pub initial_value-requires : goal.initial_value-requires
initial_value-requires c = λ n is.
    reaches (read_layout (laid_tree c.args.laid.now)) c.loop-cell.cell c.index.result.now n c.requires
    (let a = c.loop-cell-test.true in let b = c.len-cell-end.ensures in let d = c.args.laid.now.initial.ok.0 in omega (arith, a, b, d))
    c.index.ensures is

pub loop-cell-init : goal.loop-cell-init
loop-cell-init c =
    none_joined (read_layout (laid_tree c.args.laid.now)) c.len.result c.in_ok-values.values.items
    (let a = c.len.ensures in let d = c.args.laid.now.abstract_cells.ok.0 in omega (arith, a, d)) c.in_ok-values.ensures

pub loop-cell-preserved : goal.loop-cell-preserved
loop-cell-preserved c =
    next_joined (read_layout (laid_tree c.args.laid.now)) c.loop-cell.cell c.cell_at.result.abstract_cell c.index.result.now
    c.in_ok-value.value c.loop-cell.values.items c.join_at.new.values.items
    (let a = c.loop-cell-test.true in let b = c.len-cell-end.ensures in let d = c.args.laid.now.initial.ok.0 in omega (arith, a, b, d))
    c.index.ensures c.in_ok-value.ensures (ap (λ d. d.abstract_cell) c.cell_at.ensures) c.in_ok-join_at.ensures c.loop-cell.invariant

pub returns : goal.returns
returns c =
    all_joined (read_layout (laid_tree c.args.laid.now)) c.loop-cell.cell c.loop-cell.values.items
    (let a = c.loop-cell-test.false in let b = c.len-cell-end.ensures in let d = c.args.laid.now.initial.ok.0 in omega (arith, a, b, d))
    (let a = c.loop-cell.auto.cell-end in let b = c.len-cell-end.ensures in let d = c.args.laid.now.initial.ok.0 in omega (arith, a, b, d))
    c.loop-cell.invariant
