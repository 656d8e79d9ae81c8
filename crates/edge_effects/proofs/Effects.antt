-- What the code of each operation gives is what the rows say.
use Rattle.std.specs.Prelude.{◌≡◌, ◌↔◌, ℕ, IsTrue, List, [], Some, None}
use Rattle.std.proofs.Common.{sym, ap, subst, ◌∙◌}
use Rattle.std.specs.Option.{option_map}
use Rattle.tm_typed.specs.tm_cint.declared.Class.{Class}
use Rattle.pointer_dom.specs.Values.{Values}
use Rattle.interfere_set.specs.Stores.{Interferences, no_interference}
use Rattle.transfer_int.specs.Outcomes.{notes}
use Rattle.calculations.specs.transfer_rows.StateForms.{State, value_of}
use Rattle.calculations.specs.transfer_rows.Actions.{Spot, Around, Calculation, constant, skips, gives, loads}
use Rattle.calculations.specs.transfer_rows.Actions.{loads_any}
use Rattle.calculations.specs.transfer_rows.Calculations.{calculated}
use Rattle.calculations.specs.transfer_rows.Accesses.{targets_at, single_of}
use Rattle.calculations.specs.transfer_rows.Rows.{given, arrived, loaded, new_copy, after_load_any, effect}
use Rattle.calculations.specs.transfer_rows.Contributions.{added}
use Rattle.calculations.specs.transfer_rows.Reports.{targets_of, CalculationMayFail, IsListed}
use Rattle.calculations.specs.declared.values.Calculated.{Calculated}
use Rattle.calculations.specs.Given.{no_class, IsCalculated}
use Rattle.transfer_int.specs.declared.outcomes.Classes.{Classes}
use Rattle.calculations.proofs.Calculating.{nothing_noted}
use Rattle.edge_effects.specs.Effects.{IsAfter}
use Rattle.edge_effects.specs.declared.views.After.{After}

-- no class is noted, where none may be
none_may : (classes : Classes) (class : Class) → classes ≡ no_class → IsTrue (notes classes class) ↔ ⊥
none_may classes class none = (λ h. nothing_noted class (subst (λ k. IsTrue (notes k class)) none h), λ h. absurd h)

module _ (around : Around) (s : State) (store : Interferences) (r : After) where
  module _ (added-is : r.added ≡ no_interference) (targets-are : r.targets.items ≡ []) where
    pub skip_is : r.state ≡ Some (arrived around s) → r.classes ≡ no_class → IsAfter around skips s store r
    unfolding effect added targets_of IsListed
    skip_is state none = record { state = state; added = added-is; targets = targets-are; classes = λ class. none_may r.classes class none }

    pub give_is : (target : ℕ) (calculation : Calculation) (given_so : Calculated) → IsCalculated calculation s given_so
        → r.state ≡ option_map (arrived around) (given s target given_so.value None) → r.classes ≡ given_so.classes → IsAfter around (gives target calculation) s store r
    unfolding effect added targets_of IsListed
    give_is target calculation given_so is state classes = record {
      state = state ∙ ap (λ v. option_map (arrived around) (given s target v None)) is.value;
      added = added-is;
      targets = targets-are;
      classes = λ class. subst (λ k. IsTrue (notes k class) ↔ IsListed around (gives target calculation) s class) (sym classes) (is.classes class);
    }

  -- ---- accesses

  module _ (spots : List Spot) (address : ℕ) (xs : List ℕ) (at : xs ≡ targets_at spots (value_of s address).pointers) (targets-are : r.targets.items ≡ xs) (none : r.classes ≡ no_class) where
    pub load_is : (target : ℕ) → r.added ≡ no_interference
        → r.state ≡ option_map (arrived around) (given s target (loaded around s store xs) (new_copy around s (single_of around.is_smashed xs))) → IsAfter around (loads spots target address) s store r
    unfolding effect added targets_of IsListed
    load_is target added-is state = record {
      state = state ∙ ap (λ ys. option_map (arrived around) (given s target (loaded around s store ys) (new_copy around s (single_of around.is_smashed ys)))) at;
      added = added-is;
      targets = targets-are ∙ at;
      classes = λ class. none_may r.classes class none;
    }

    pub load_any_is : (target : ℕ) (range : Values) → r.added ≡ no_interference → r.state ≡ option_map (arrived around) (after_load_any around s target xs range)
        → IsAfter around (loads_any spots target address range) s store r
    unfolding effect added targets_of IsListed
    load_any_is target range added-is state = record {
      state = state ∙ ap (λ ys. option_map (arrived around) (after_load_any around s target ys range)) at;
      added = added-is;
      targets = targets-are ∙ at;
      classes = λ class. none_may r.classes class none;
    }

-- a constant, as the code gives it
pub constant_given : (s : State) (v : Values) (r : Calculated) → r.value ≡ v → r.classes ≡ no_class → IsCalculated (constant v) s r
unfolding calculated CalculationMayFail
constant_given s v r value none = record { value = value; classes = λ class. none_may r.classes class none }
