use Rattle.std.proofs.Common.{◌≡◌, take}
use Rattle.slot_numbers.proofs.flat_lists.flattened.Given as goal

abbrev pub invariant-loop-list-2 : goal.invariant-loop-list-2
invariant-loop-list-2 l = l.flat ≡ take l.list-index l.lists
