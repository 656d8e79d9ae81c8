use Rattle.std.proofs.Common.{Option, IfSome, ℕ, ◌+◌, ◌<◌, length, get_or, drop, subst, arith}
use Rattle.std.proofs.lemmas.List.{drop_more}
use Rattle.least_assignments.specs.Constraints.{at as value_at}
use Rattle.table_covers.specs.tm_lattice.Tables.{Table}
use Rattle.edge_actions.specs.transfer_rows.StateForms.{Cell}
use Rattle.body_slots.specs.reading.Tables.{AreKept, IsPut}
use Rattle.body_slots.proofs.Kept.{kept_next}
use Rattle.body_slots.proofs.tables.put_cells.Goals as goal

pub loop-cell-preserved : goal.loop-cell-preserved
loop-cell-preserved c =
    let v = c.args.system.now in
    let a = value_at c.args.values.now in
    let xs = c.args.list.now in
    let i : ℕ = c.loop-cell.cell-index in
    let lt : i < length xs = omega arith in
    kept_next v a c.args.node (get_or xs i 0) (drop (i + 1) xs) c.loop-cell.cells c.in-Some.more
    (subst (λ zs. AreKept v a c.args.node zs c.loop-cell.cells) (drop_more xs i 0 lt) c.loop-cell.invariant)
    (subst (λ (y : Option (Table Cell)). IfSome y (IsPut v a c.args.node (get_or xs i 0) c.loop-cell.cells)) c.in-Some.is
    c.in_ok-put_cell.ensures)
