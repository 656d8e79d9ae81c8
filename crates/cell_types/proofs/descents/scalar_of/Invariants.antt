use Rattle.std.proofs.Common.{◌+◌, ◌-◌, length, slice_get}
use Rattle.tm_typed.specs.TypedFiles.{typed_file_tree}
use Rattle.tm_laid.specs.Layouts.{scalars_of_type}
use Rattle.cell_types.specs.reading.Descents.{IsReached}
use Rattle.cell_types.proofs.descents.scalar_of.Given as goal

abbrev pub invariant-loop-step : goal.invariant-loop-step
invariant-loop-step l =
    let file = typed_file_tree l.file in
    IsReached file (slice_get (scalars_of_type file l.of) l.cell) (length file.types + length file.structs - l._step) l.part
