use Rattle.std.proofs.Common.{◌≡◌, take, map}
use Rattle.thread_pass.specs.StoreUses.{adds_along}
use Rattle.thread_pass.proofs.store_uses.adders.Given as goal

abbrev pub invariant-loop-copy : goal.invariant-loop-copy
invariant-loop-copy l = l.marks.items ≡ map (adds_along l.edges) (take l.copy-index l.copies)
