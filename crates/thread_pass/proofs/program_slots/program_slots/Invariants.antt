use Rattle.program_systems.specs.ProgramFacts.{program_with}
use Rattle.thread_pass.proofs.SlotsInOrder.{AreFirst}
use Rattle.thread_pass.proofs.program_slots.program_slots.Given as goal

abbrev pub invariant-loop-number : goal.invariant-loop-number
invariant-loop-number l = AreFirst (program_with l.program l.facts) l.number l.slots.items
