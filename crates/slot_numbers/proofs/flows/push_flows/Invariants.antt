use Rattle.std.proofs.Common.{◌≡◌, ◌++◌, map, not, take}
use Rattle.std.specs.List.{filter}
use Rattle.cell_placings.specs.CellLists.{is_in, cells_at}
use Rattle.slot_numbers.specs.Numberings.{along_edge}
use Rattle.slot_numbers.proofs.flows.push_flows.Given as goal

abbrev pub invariant-loop-cell : goal.invariant-loop-cell
invariant-loop-cell l =
    l.flows.items ≡ l.initial.flows.items ++ map (along_edge l.edge)
    (filter (λ x. not (is_in (cells_at l.graph.touched.items l.edge) x)) (take l.cell-index l.own))
