use Rattle.std.proofs.Common.{◌≡◌, ℕ, ◌<◌, length, get_or, IfOk}
use Rattle.std.specs.declared.result.Result.{Result}
use Rattle.tm_lattice.specs.declared.memory.NoMemory.{NoMemory}
use Rattle.shared_programs.specs.program_systems.ProgramFacts.{program_with}
use Rattle.post_recheck.specs.Pairs.{pair_of}
use Rattle.post_recheck.specs.Bodies.{IsBodyCheck}
use Rattle.post_recheck.specs.declared.bodies.BodyCheck.{BodyCheck}
use Rattle.post_recheck.proofs.checking.checks_in_order.Given as goal

abbrev pub invariant-loop-number : goal.invariant-loop-number
invariant-loop-number l = (length l.checks.items ≡ l.number)
    × ((t : ℕ) (none : Result BodyCheck NoMemory) → t < l.number → IfOk (get_or l.checks.items t none)
    (IsBodyCheck (program_with l.program l.facts) (pair_of l.tables l.store) t))
