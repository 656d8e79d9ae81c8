-- The objects of which bounds are listed are objects of the layout.
use Rattle.std.specs.Prelude.{ℕ, ◌<◌, List, length, slice_index_or}
use Rattle.std.proofs.lemmas.List.Elements.{Contains-get_or}
use Rattle.value_ranges.specs.program_reports.interfere_set.Stores.{Interferences}
use Rattle.value_ranges.specs.program_reports.transfer_rows.StateForms.{State}
use Rattle.value_ranges.specs.program_reports.table_covers.Solutions.{NodeTable}
use Rattle.program_solutions.specs.program_equations.Programs.{ProgramBodies}
use Rattle.value_ranges.specs.declared.object_bounds.ObjectBounds.{ObjectBounds}
use Rattle.value_ranges.specs.Ranges.{AreRanges}

pub listed_there : (p : ProgramBodies) (tables : ℕ → NodeTable State) (store : Interferences) (list : List ObjectBounds)
    → AreRanges p tables store list → (k : ℕ) (none : ObjectBounds) → k < length list
    → (let l = p.laid in (slice_index_or list k none).object < length l.objects)
listed_there p tables store list are k none lt =
    let bounds = are.each (slice_index_or list k none) (Contains-get_or list k none lt) in
    let least = bounds.low_is in
    let cell = least.of in
    cell.there
