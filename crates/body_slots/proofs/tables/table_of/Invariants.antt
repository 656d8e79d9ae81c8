use Rattle.std.proofs.Common.{◌≡◌, ℕ, ◌<◌, length, get_or, None}
use Rattle.least_assignments.specs.Constraints.{at as value_at}
use Rattle.body_slots.specs.reading.Tables.{IsMadeAt}
use Rattle.body_slots.proofs.tables.table_of.Given as goal

abbrev pub invariant-loop-node : goal.invariant-loop-node
invariant-loop-node l = (length l.table.items ≡ l.node)
    × ((n : ℕ) → n < l.node → IsMadeAt l.system (value_at l.values) n (get_or l.table.items n None))
