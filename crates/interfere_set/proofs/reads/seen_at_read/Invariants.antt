use Rattle.std.proofs.Common.{ℕ}
use Rattle.tm_lattice.specs.Tables.{Table}
use Rattle.pointer_dom.specs.Values.{Values}
use Rattle.interfere_set.specs.Stores.{reader_of, seen_of_task}
use Rattle.interfere_set.proofs.Reading.{IsJoinedUpTo}
use Rattle.interfere_set.proofs.reads.seen_at_read.Given as goal

abbrev pub invariant-loop-writer : goal.invariant-loop-writer
invariant-loop-writer l =
    IsJoinedUpTo (λ (e : ℕ × Table (Table Values)). seen_of_task (reader_of l.task l.held l.found l.priorities) l.fresh l.cell e.0 e.1) l.writer-items l.writer-index l.seen
