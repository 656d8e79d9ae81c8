use Rattle.std.proofs.Common.{◌≡◌, ◌++◌, map, take}
use Rattle.front_constraints.specs.Systems.{slot_at}
use Rattle.cell_placings.specs.OwnerTrees.{kept_in}
use Rattle.slot_numbers.specs.Numberings.{number_of}
use Rattle.slot_numbers.proofs.readers.push_kept.Given as goal

abbrev pub invariant-loop-cell : goal.invariant-loop-cell
invariant-loop-cell l =
    l.list ≡ l.initial.list ++ map (number_of l.variables)
    (map (λ x. slot_at (kept_in l.placing l.node x) x) (take l.cell-index l.cells))
