use Rattle.slot_numbers.specs.reading.Building.{AreReaders}
use Rattle.slot_numbers.proofs.readers.list_readers.Given as goal

abbrev pub invariant-loop-number : goal.invariant-loop-number
invariant-loop-number l = AreReaders l.graph l.placing l.variables l.flows l.count l.number l.lists.items
