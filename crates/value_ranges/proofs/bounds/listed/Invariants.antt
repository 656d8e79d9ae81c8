use Rattle.value_ranges.specs.reading.Notes.{AreListed}
use Rattle.value_ranges.proofs.bounds.listed.Given as goal

abbrev pub invariant-loop-object : goal.invariant-loop-object
invariant-loop-object l = AreListed l.noted l.object l.list.items
