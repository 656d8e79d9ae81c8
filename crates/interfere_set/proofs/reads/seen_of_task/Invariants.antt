use Rattle.interfere_set.specs.Stores.{reader_of, shown_at}
use Rattle.interfere_set.proofs.Reading.{IsJoinedUpTo}
use Rattle.interfere_set.proofs.reads.seen_of_task.Given as goal

abbrev pub invariant-loop-under : goal.invariant-loop-under
invariant-loop-under l = IsJoinedUpTo (shown_at (reader_of l.task l.held l.found l.priorities) l.fresh l.cell l.writer) l.under-items l.under-index l.seen
