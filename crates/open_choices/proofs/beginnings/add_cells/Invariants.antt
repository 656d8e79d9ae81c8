use Rattle.std.proofs.Common.{take}
use Rattle.open_choices.specs.reading.Left.{AddsTo, IsOfEach}
use Rattle.open_choices.proofs.Others.{IsPointed}
use Rattle.open_choices.proofs.beginnings.add_cells.Given as goal

abbrev pub invariant-loop-cell : goal.invariant-loop-cell
invariant-loop-cell l =
    AddsTo l.initial.objects.items l.objects.items (IsOfEach IsPointed (take l.cell-index l.cell-items))
