-- What the table and the interpreter say alike of values.
use Rattle.std.proofs.Common.{◌≡◌, Bool, true, false, pos, refl, sym, ap}
use Rattle.std.specs.Prelude.{if◌then◌else◌, Result, Ok, Err, Some, None}
use Rattle.concrete_steps.specs.tm_cint.declared.Class.{Class}
use Rattle.concrete_steps.specs.tm_cint.declared.int_types.IntType.{IntType}
use Rattle.concrete_steps.specs.tm_cint.declared.int_types.IntType.TheVariants as Ints
use Rattle.concrete_steps.specs.tm_cint.declared.operators.BinOp.{BinOp}
use Rattle.concrete_steps.specs.tm_cint.declared.operators.BinOp.TheVariants as Bins
use Rattle.concrete_steps.specs.tm_cint.Conversions.{represents_all, converted_value}
use Rattle.concrete_steps.specs.tm_cint.Operators.{IsComparison}
use Rattle.concrete_steps.specs.tm_terms.declared.places.Place.{Place}
use Rattle.concrete_steps.specs.tm_typed.Rules.{is_comparison}
use Rattle.concrete_steps.specs.tm_laid.Layouts.{LaidTree}
use Rattle.concrete_steps.specs.concrete_values.declared.values.Value.{Value}
use Rattle.concrete_steps.specs.concrete_values.declared.values.Value.TheVariants.{Number, Pointer as APointer}
use Rattle.concrete_steps.specs.concrete_values.declared.values.Pointer.TheVariants as Pointers
use Rattle.concrete_steps.specs.concrete_values.Values.{nothing, number_of}
use Rattle.concrete_steps.specs.concrete_values.Operators.{binary, converted}
use Rattle.concrete_steps.specs.concrete_values.Pointers.{usable}
use Rattle.concrete_steps.specs.NextAction.{After, result_then, as_branch, value_used}
use Rattle.flow_graph.specs.Operations.{given_by, is_given_true}
use Rattle.lowering.specs.Table.{Conversion, conversion}
use Rattle.lowering.proofs.Meaning.{doing_then}

-- a value, or what stands for one where there is none
abbrev pub kept : Bool → Value → Value
kept true v = v
kept false v = nothing

abbrev pub applied : Conversion → Value → Value
applied None v = v
applied (Some c) v = converted c.0 c.1 v

pub applied_conversion : (from to : IntType) (v : Value) → applied (conversion from to) v ≡ converted from to v
unfolding converted
applied_conversion from to v = by_case (represents_all to from) refl
  where
    by_case : (b : Bool) → represents_all to from ≡ b
        → applied (if b then None else Some (from, to)) v ≡ converted from to v
    by_case true e = sym (ap (λ z. if z then v else Number (converted_value (number_of v) to)) e)
    by_case false e = refl

pub given_law : (laid : LaidTree) (r : Result Value Class) (p : Place) (k : Value → After) → doing_then laid
    (given_by p r) k ≡ result_then r p k
given_law laid (Ok v) p k = refl
given_law laid (Err class) p k = refl

usable_same : (x u : Value) → usable x ≡ Ok u → u ≡ x
unfolding usable
usable_same (Number n) u e = cc
usable_same (APointer Pointers.Null) u e = cc
usable_same (APointer Pointers.Invalid) u e = absurd (cc)
usable_same (APointer (Pointers.To o k)) u e = cc

pub usable_law : (laid : LaidTree) (x : Value) (p : Place) (k : Value → After) → doing_then laid (given_by p (usable x))
    (λ u. k x) ≡ result_then (usable x) p k
usable_law laid x p k = by_case (usable x) refl
  where
    by_case : (r : Result Value Class) → usable x ≡ r → doing_then laid (given_by p r) (λ u. k x) ≡ result_then r p k
    by_case (Ok u) e = ap k (sym (usable_same x u e))
    by_case (Err class) e = refl

pub one_converted : (of : IntType) → converted Ints.Int of (Number (pos 1)) ≡ Number (pos 1)
unfolding converted number_of
one_converted Ints.Bool = refl
one_converted Ints.Char = refl
one_converted Ints.UChar = refl
one_converted Ints.Short = refl
one_converted Ints.UShort = refl
one_converted Ints.Int = refl
one_converted Ints.UInt = refl
one_converted Ints.Long = refl
one_converted Ints.ULong = refl
one_converted Ints.LLong = refl
one_converted Ints.ULLong = refl

-- a comparison always gives a value
pub comparison_law : (op : BinOp) → is_comparison op ≡ true → (t : IntType) (x y : Value) (p : Place)
    (one other : After)
    → (if is_given_true (binary op t x y) then one else other) ≡ result_then (binary op t x y) p
    (value_used (as_branch one other) false p)
unfolding binary
comparison_law Bins.Lt h t x y p one other = refl
comparison_law Bins.Le h t x y p one other = refl
comparison_law Bins.Gt h t x y p one other = refl
comparison_law Bins.Ge h t x y p one other = refl
comparison_law Bins.Eq h t x y p one other = refl
comparison_law Bins.Ne h t x y p one other = refl
comparison_law op h t x y p one other = absurd (cc)

pub comparison_is : (op : BinOp) → is_comparison op ≡ true → IsComparison op
comparison_is Bins.Lt h = tt
comparison_is Bins.Le h = tt
comparison_is Bins.Gt h = tt
comparison_is Bins.Ge h = tt
comparison_is Bins.Eq h = tt
comparison_is Bins.Ne h = tt
comparison_is op h = absurd (cc)
