use Rattle.std.proofs.Common.{◌↔◌, take}
use Rattle.std.specs.Prelude.{Contains}
use Rattle.operand_orders.specs.declared.pairs.Pair.{Pair as APair}
use Rattle.operand_orders.specs.reading.Pairs.{swapped}
use Rattle.operand_orders.proofs.pairs.all_swapped.Given as goal

abbrev pub invariant-loop-pair : goal.invariant-loop-pair
invariant-loop-pair l = (p : APair) → Contains l.others.items p ↔ Contains (take l.pair-index l.pairs) (swapped p)
