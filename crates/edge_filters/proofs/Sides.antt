-- What a comparison leaves of both sides, and which classes an edge that lets through does not exclude.
use Rattle.std.specs.Prelude.{◌≡◌, ◌↔◌, ℕ, Bool, true, false, not, cond, IsTrue, pos, Some, None, refl}
use Rattle.std.proofs.Common.{sym, ap, subst, ◌∙◌, arith}
use Rattle.std.proofs.lemmas.Int.{ints}
use Rattle.strided_dom.specs.Progression.{Progression, IsInReach}
use Rattle.tm_cint.specs.declared.Class.{Class}
use Rattle.tm_cint.specs.declared.operators.BinOp.{BinOp}
use Rattle.tm_cint.specs.declared.operators.BinOp.TheVariants.{Eq, Ne}
use Rattle.pointer_dom.specs.PointerSets.{Pointers}
use Rattle.pointer_dom.specs.Values.{Values}
use Rattle.edge_effects.specs.calculations.operator_values.Integers.{left_assumed, right_assumed}
use Rattle.edge_effects.specs.calculations.operator_values.SetsOfPointers.{left_pointers, right_pointers}
use Rattle.transfer_int.specs.Outcomes.{notes}
use Rattle.transfer_int.specs.declared.outcomes.Classes.{Classes}
use Rattle.edge_effects.specs.calculations.Given.{no_class}
use Rattle.edge_effects.proofs.low.calculations.Calculating.{nothing_noted}
use Rattle.flow_graph.specs.declared.operations.Test.{Test}
use Rattle.flow_graph.specs.declared.operations.Test.TheVariants.{Numbers, Pointers as Addresses, Truth}
use Rattle.flow_graph.specs.declared.operations.Test.TheVariants.{Case}
use Rattle.edge_effects.specs.calculations.transfer_rows.StateForms.{State, only_numbers, only_pointers}
use Rattle.edge_effects.specs.calculations.transfer_rows.Actions.{Around, Side, numbers_compare, pointers_compare}
use Rattle.edge_effects.specs.calculations.transfer_rows.Calculations.{side_value}
use Rattle.edge_effects.specs.calculations.transfer_rows.Rows.{side_refined, then_refined, after_filter}
use Rattle.edge_effects.specs.calculations.transfer_rows.Reports.{FilterMayFail}
use Rattle.edge_effects.specs.edge_actions.Edges.{filter_of}
use Rattle.edge_filters.proofs.Refined.{two_sides}

pub zero_in_reach : IsInReach (pos 0)
zero_in_reach = record { low = omega (arith, ints); high = omega (arith, ints) }

-- `!=` where the truth is wanted, else `==`
pub turned : (holds : Bool) → cond (not holds) Eq Ne ≡ cond holds Ne Eq
turned true = refl
turned false = refl

module _ (around : Around) (s : State) (left right : Side) (v w : Values) where
  pub numbers_so : (op : BinOp) (a b : Progression) → a ≡ (side_value left s).numbers → b ≡ (side_value right s).numbers
      → v ≡ only_numbers (left_assumed op a b) → w ≡ only_numbers (right_assumed op a b)
      → then_refined around right w (side_refined around left v s) ≡ after_filter around s (numbers_compare op left right)
  numbers_so op a b a-is b-is v-is w-is = two_sides around left right v _ w _ s
      (v-is ∙ (λ i. only_numbers (left_assumed op (a-is i) (b-is i)))) (w-is ∙ (λ i. only_numbers (right_assumed op (a-is i) (b-is i))))

  pub pointers_so : (equal : Bool) (p q : Pointers) → p ≡ (side_value left s).pointers → q ≡ (side_value right s).pointers
      → v ≡ only_pointers (left_pointers equal p q) → w ≡ only_pointers (right_pointers equal p q)
      → then_refined around right w (side_refined around left v s) ≡ after_filter around s (pointers_compare equal left right)
  pointers_so equal p q p-is q-is v-is w-is = two_sides around left right v _ w _ s
      (v-is ∙ (λ i. only_pointers (left_pointers equal (p-is i) (q-is i)))) (w-is ∙ (λ i. only_pointers (right_pointers equal (p-is i) (q-is i))))

-- a test fails with no class
test_is_sure : (pointers : Bool) (test : Test) (s : State) (class : Class) → FilterMayFail (filter_of pointers test) s class → ⊥
test_is_sure pointers (Numbers operator of left right) s class h = h
test_is_sure pointers (Addresses equal left right) s class h = h
test_is_sure true (Truth holds value) s class h = h
test_is_sure false (Truth holds value) s class h = h
test_is_sure pointers (Case holds label value) s class h = h

pub no_test_fails : (pointers : Bool) (test : Test) (s : State) (classes : Classes) (class : Class) → classes ≡ no_class
    → IsTrue (notes classes class) ↔ FilterMayFail (filter_of pointers test) s class
no_test_fails pointers test s classes class none =
    (λ h. absurd (nothing_noted class (subst (λ k. IsTrue (notes k class)) none h)), λ h. absurd (test_is_sure pointers test s class h))
