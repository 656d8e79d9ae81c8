use Rattle.std.proofs.Common.{◌≡◌, take, map}
use Rattle.thread_pass.specs.StoreUses.{reads_along}
use Rattle.thread_pass.proofs.store_uses.readers.Given as goal

abbrev pub invariant-loop-copy : goal.invariant-loop-copy
invariant-loop-copy l = l.marks.items ≡ map (reads_along l.edges) (take l.copy-index l.copies)
