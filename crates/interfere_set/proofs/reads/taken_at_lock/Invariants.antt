use Rattle.std.proofs.Common.{ℕ, cond, eqb}
use Rattle.tm_lattice.specs.Tables.{Table}
use Rattle.pointer_dom.specs.Values.{Values, no_value}
use Rattle.interfere_set.specs.Stores.{left_at}
use Rattle.interfere_set.proofs.Reading.{IsJoinedUpTo}
use Rattle.interfere_set.proofs.reads.taken_at_lock.Given as goal

abbrev pub invariant-loop-other : goal.invariant-loop-other
invariant-loop-other l =
    IsJoinedUpTo (λ (e : ℕ × Table (Table Values)). cond (eqb e.0 l.task) no_value (left_at l.mutex l.cell e.1)) l.other-items l.other-index l.taken
