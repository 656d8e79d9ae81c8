use Rattle.std.proofs.Common.{take}
use Rattle.open_choices.specs.reading.Left.{AddsTo, IsOfEach}
use Rattle.open_choices.proofs.Others.{IsWritten}
use Rattle.open_choices.proofs.beginnings.add_written.Given as goal

abbrev pub invariant-loop-held : goal.invariant-loop-held
invariant-loop-held l =
    AddsTo l.initial.objects.items l.objects.items (IsOfEach IsWritten (take l.held-index l.held-items))
