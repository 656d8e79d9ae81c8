use Rattle.std.proofs.Common.{◌≡◌, length}
use Rattle.program_solutions.proofs.Turning.{AreUnstarted}
use Rattle.program_solutions.proofs.turns.no_starts.Given as goal

abbrev pub invariant-loop : goal.invariant-loop
invariant-loop l = (length l.starts.items ≡ l.counter) × AreUnstarted l.starts.items
