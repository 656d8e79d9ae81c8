-- Sets of at most sixteen mutexes as numbers, and what an operation does to them.
use Rattle.std.specs.Prelude.{ℕ, ◌-◌, ◌^◌, ◌<◌, cond, Bool, true, false, not, eqb, bit_and, bit_or, List, [], ◌∷◌}
use Rattle.std.specs.Int.{bit_at}
use Rattle.flow_graph.specs.declared.operations.Operation.{Operation}
use Rattle.flow_graph.specs.declared.operations.Operation.TheVariants as Op
use Rattle.mutex_configs.specs.declared.nodes.ConfiguredNode.{ConfiguredNode}

-- the mutex is in the set
abbrev pub has : ℕ → ℕ → Bool
has l m = eqb (bit_at l m) 1

abbrev pub with_mutex : ℕ → ℕ → ℕ
with_mutex l m = bit_or l (2 ^ m)

-- 65535 is the set of all sixteen
abbrev pub without_mutex : ℕ → ℕ → ℕ
without_mutex l m = bit_and l (65535 - 2 ^ m)

unfoldable pub is_probe : Operation → Bool
is_probe (Op.Probe to mutex place) = true
is_probe op = false

-- the answers for which an edge has a copy: a probe tells whether the mutex is held
abbrev pub answers_of : Operation → List Bool
answers_of op = cond (is_probe op) (true ∷ false ∷ []) (true ∷ [])

-- the mutex of an operation is one of sixteen
unfoldable pub IsOfSixteen : Operation → Type 0
IsOfSixteen (Op.Lock mutex place) = mutex < 16
IsOfSixteen (Op.Unlock mutex place) = mutex < 16
IsOfSixteen (Op.Probe to mutex place) = mutex < 16
IsOfSixteen op = Unit {0}

-- Locking waits: what was found free before says nothing more. So does yielding.
unfoldable pub held_after : Operation → ℕ → ℕ
held_after (Op.Lock mutex place) held = with_mutex held mutex
held_after (Op.Unlock mutex place) held = without_mutex held mutex
held_after op held = held

unfoldable pub found_after : Operation → Bool → ℕ → ℕ
found_after (Op.Lock mutex place) answer found = 0
found_after Op.Yield answer found = 0
found_after (Op.Probe to mutex place) false found = with_mutex found mutex
found_after op answer found = found

-- a mutex is locked that is held, or unlocked that is not, or found free though it is held
unfoldable pub leads_nowhere : Operation → Bool → ℕ → Bool
leads_nowhere (Op.Lock mutex place) answer held = has held mutex
leads_nowhere (Op.Unlock mutex place) answer held = not (has held mutex)
leads_nowhere (Op.Probe to mutex place) false held = has held mutex
leads_nowhere op answer held = false

-- the node to which an operation leads from a node
abbrev pub node_after : Operation → Bool → ConfiguredNode → ℕ → ConfiguredNode
node_after op answer q place = record {
  place = place;
  held = held_after op q.held;
  found = found_after op answer q.found;
}
