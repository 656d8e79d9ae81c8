use Rattle.std.proofs.Common.{◌≡◌, ℕ, length, get_or, None, IfSome}
use Rattle.body_slots.specs.reading.Tables.{IsEarlier}
use Rattle.body_slots.proofs.tables.earlier_nodes.Given as goal

abbrev pub invariant-loop-link : goal.invariant-loop-link
invariant-loop-link l = (length l.earlier.items ≡ l.graph.nodes)
    × ((n : ℕ) → IfSome (get_or l.earlier.items n None) (IsEarlier l.graph n))
