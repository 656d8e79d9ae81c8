-- Rounding of states is a closure, and no state is nothing.
use Rattle.std.specs.Prelude.{ℤ, List}
use Rattle.tm_lattice.specs.LatticeLaws.{IsClosure, IsLeastNothing}
use Rattle.pointer_dom.specs.Values.{Values, IsValues, IsValuesBelow, joined_values, rounded_values}
use Rattle.pointer_dom.specs.laws.ValueLaws.{values_order, values_join, values_closure}
use Rattle.cell_env.specs.States.{rounded_state}
use Rattle.cell_env.specs.laws.StateLaws.{state_closure, state_nothing}
use Rattle.transfer_mem.specs.edge_actions.transfer_rows.StateForms.{IsStateForm, IsStateUnder}

abbrev Values_are : Values → Type 0
Values_are v = IsValues v

abbrev Values_under : Values → Values → Type 0
Values_under v w = IsValuesBelow v w

abbrev AnyMarks : List ℤ → Type 0
AnyMarks marks = Unit {0}

pub states_closure : IsClosure IsStateForm AnyMarks IsStateUnder (λ marks. rounded_state (rounded_values marks))
states_closure = state_closure Values_are AnyMarks Values_under joined_values rounded_values values_order values_join
    values_closure

pub states_nothing : IsLeastNothing IsStateForm AnyMarks IsStateUnder (λ marks. rounded_state (rounded_values marks))
    (λ s. ⊥)
states_nothing = state_nothing Values_are AnyMarks Values_under joined_values rounded_values values_order values_join
    values_closure
