use Rattle.std.proofs.Common.{take}
use Rattle.open_choices.specs.reading.Left.{AddsTo, IsOfEach}
use Rattle.open_choices.proofs.Others.{IsOther}
use Rattle.open_choices.proofs.beginnings.add_others.Given as goal

abbrev pub invariant-loop-writer : goal.invariant-loop-writer
invariant-loop-writer l =
    AddsTo l.initial.objects.items l.objects.items (IsOfEach (IsOther l.body) (take l.writer-index l.writer-items))
