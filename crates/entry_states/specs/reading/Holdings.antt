-- Where it stands what abstract cells hold.
use Rattle.std.specs.Prelude.{ℕ, slice_get, Option, Some, None}
use Rattle.pointer_dom.specs.Values.{Values, no_value}
use Rattle.body_systems.specs.edge_actions.transfer_rows.StateForms.{own_of}
use Rattle.entry_states.specs.declared.entries.Holding.{Holding}
use Rattle.entry_states.specs.declared.entries.Holding.TheVariants.{Listed, Kept}

abbrev pub value_or_none : Option Values → Values
value_or_none None = no_value
value_or_none (Some v) = v

-- what an abstract cell holds by what is listed, or by what a state keeps
abbrev pub held_value : Holding → ℕ → Values
held_value (Listed values) x = value_or_none (slice_get values.now x)
held_value (Kept state) x = own_of state.now x
