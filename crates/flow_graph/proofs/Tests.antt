-- A test and its opposite.
use Rattle.std.proofs.Common.{◌≡◌, Bool, true, false, ℤ, refl, sym, ◌∙◌, ap, arith}
use Rattle.std.specs.Prelude.{not, int_lt, int_le}
use Rattle.std.proofs.lemmas.Int.{ints}
use Rattle.concrete_values.specs.tm_cint.declared.int_types.IntType.{IntType}
use Rattle.concrete_values.specs.tm_cint.declared.operators.BinOp.{BinOp}
use Rattle.concrete_values.specs.tm_cint.declared.operators.BinOp.TheVariants as Bins
use Rattle.concrete_values.specs.tm_cint.Operators.{IsComparison}
use Rattle.concrete_values.specs.tm_cint.Conversions.{truth}
use Rattle.concrete_values.specs.declared.values.Value.{Value}
use Rattle.concrete_values.specs.declared.values.Value.TheVariants.{Number}
use Rattle.concrete_values.specs.Values.{is_true, number_in}
use Rattle.concrete_values.specs.Operators.{binary}
use Rattle.concrete_values.specs.Pointers.{is_compared}
use Rattle.flow_graph.specs.declared.operations.Test.{Test}
use Rattle.flow_graph.specs.declared.operations.Test.TheVariants as Tests
use Rattle.flow_graph.specs.Operations.{Temps, negated, opposite, is_given_true, is_as, holds}
use Rattle.flow_graph.specs.Graphs.{IsTest}

-- the truth of a truth
truth_true : (b : Bool) → is_true (Number (truth b)) ≡ b
unfolding is_true
truth_true true = refl
truth_true false = refl

below_or_not : (x y : ℤ) → int_le y x ≡ not (int_lt x y)
below_or_not x y = by_case (int_lt x y) refl
  where
    by_case : (b : Bool) → int_lt x y ≡ b → int_le y x ≡ not b
    by_case true e = grind (arith, ints)
    by_case false e = grind (arith, ints)

above_or_not : (x y : ℤ) → int_lt x y ≡ not (int_le y x)
above_or_not x y = by_case (int_le y x) refl
  where
    by_case : (b : Bool) → int_le y x ≡ b → int_lt x y ≡ not b
    by_case true e = grind (arith, ints)
    by_case false e = grind (arith, ints)

not_not : (b : Bool) → b ≡ not (not b)
not_not true = refl
not_not false = refl

pub numbers_opposite : (op : BinOp) (t : IntType) (x y : Value) → IsComparison op
    → is_given_true (binary (negated op) t x y) ≡ not (is_given_true (binary op t x y))
unfolding binary
numbers_opposite Bins.Lt t x y h = truth_true _
    ∙ (below_or_not (number_in t x) (number_in t y) ∙ ap not (sym (truth_true _)))
numbers_opposite Bins.Le t x y h = truth_true _
    ∙ (above_or_not (number_in t y) (number_in t x) ∙ ap not (sym (truth_true _)))
numbers_opposite Bins.Gt t x y h = truth_true _
    ∙ (below_or_not (number_in t y) (number_in t x) ∙ ap not (sym (truth_true _)))
numbers_opposite Bins.Ge t x y h = truth_true _
    ∙ (above_or_not (number_in t x) (number_in t y) ∙ ap not (sym (truth_true _)))
numbers_opposite Bins.Eq t x y h = truth_true _ ∙ ap not (sym (truth_true _))
numbers_opposite Bins.Ne t x y h = truth_true _ ∙ (not_not _ ∙ ap not (sym (truth_true _)))
numbers_opposite op t x y h = absurd h

as_opposite : (b c : Bool) → is_as (not b) c ≡ not (is_as b c)
as_opposite true c = refl
as_opposite false c = not_not c

pointers_opposite : (b : Bool) (x y : Value) → is_compared (not b) x y ≡ not (is_compared b x y)
unfolding is_compared
pointers_opposite true x y = refl
pointers_opposite false x y = not_not _

pub opposite_holds : (test : Test) (t : Temps) → IsTest test → holds (opposite test) t ≡ not (holds test t)
opposite_holds (Tests.Numbers op of l r) t h = numbers_opposite op of (t l) (t r) h
opposite_holds (Tests.Pointers equal l r) t h = pointers_opposite equal (t l) (t r)
opposite_holds (Tests.Truth is v) t h = as_opposite is _
opposite_holds (Tests.Case is label v) t h = as_opposite is _
