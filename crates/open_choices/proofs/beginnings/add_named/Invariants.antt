use Rattle.std.proofs.Common.{take}
use Rattle.open_choices.specs.reading.Left.{AddsTo, IsOfEach}
use Rattle.open_choices.proofs.Others.{IsNamed}
use Rattle.open_choices.proofs.beginnings.add_named.Given as goal

abbrev pub invariant-loop-object : goal.invariant-loop-object
invariant-loop-object l =
    AddsTo l.initial.objects.items l.objects.items (IsOfEach IsNamed (take l.object-index l.object-items))
