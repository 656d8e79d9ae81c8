use Rattle.std.proofs.Common.{◌≡◌, ◌≢◌, ◌<◌, ℕ, get_or}
use Rattle.std.specs.FinMap.{get}
use Rattle.tm_lattice.specs.Tables.{Table}
use Rattle.pointer_dom.specs.Values.{Values, no_value}
use Rattle.interfere_set.specs.Stores.{value_or_none}
use Rattle.operand_orders.proofs.others.leaves_in.Given as goal

abbrev pub invariant-loop-index : goal.invariant-loop-index
invariant-loop-index l = (k : ℕ) (e : ℕ × Table Values) → k < l.index → get_or l.sets k e ≡ e
    → value_or_none (get e.1 l.cell) ≢ no_value → ⊥
