-- What the code of an edge that lets through gives is what the rows say.
use Rattle.std.specs.Prelude.{◌≡◌, ◌↔◌, IsTrue, []}
use Rattle.std.specs.Option.{option_map}
use Rattle.tm_cint.specs.declared.Class.{Class}
use Rattle.edge_effects.specs.calculations.interfere_set.Stores.{Interferences, no_interference}
use Rattle.transfer_int.specs.Outcomes.{notes}
use Rattle.edge_effects.specs.calculations.transfer_rows.StateForms.{State}
use Rattle.edge_effects.specs.calculations.transfer_rows.Actions.{Around, Filter, refines}
use Rattle.edge_effects.specs.calculations.transfer_rows.Rows.{after_filter, arrived, effect}
use Rattle.edge_effects.specs.calculations.transfer_rows.Contributions.{added}
use Rattle.edge_effects.specs.calculations.transfer_rows.Reports.{targets_of, FilterMayFail, IsListed}
use Rattle.edge_effects.specs.Effects.{IsAfter}
use Rattle.edge_effects.specs.declared.views.After.{After}

module _ (around : Around) (s : State) (store : Interferences) (r : After) (filter : Filter) where
  pub filter_is : r.state ≡ option_map (arrived around) (after_filter around s filter) → r.added ≡ no_interference → r.targets.items ≡ []
      → ((class : Class) → IsTrue (notes r.classes class) ↔ FilterMayFail filter s class) → IsAfter around (refines filter) s store r
  unfolding effect added targets_of IsListed
  filter_is state added-is targets-are classes = record { state = state; added = added-is; targets = targets-are; classes = classes }
