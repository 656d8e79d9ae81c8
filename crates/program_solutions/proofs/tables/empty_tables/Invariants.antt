use Rattle.std.proofs.Common.{◌≡◌, length}
use Rattle.program_solutions.proofs.Turning.{AreEmpty}
use Rattle.program_solutions.proofs.tables.empty_tables.Given as goal

abbrev pub invariant-loop : goal.invariant-loop
invariant-loop l = (length l.tables.items ≡ l.counter) × AreEmpty l.tables.items
