-- A state that fits the node that a copy of an edge leaves is one to which the edge may be applied.
use Rattle.std.specs.Prelude.{ℕ, ℤ, List, Option, Some, None}
use Rattle.std.proofs.Common.{subst, arith}
use Rattle.std.proofs.lemmas.Int.{ints}
use Rattle.std.specs.FinMap.{get}
use Rattle.strided_dom.specs.Progression.{IsInReach}
use Rattle.tm_laid.specs.tm_cint.declared.int_types.IntType.{IntType}
use Rattle.tm_laid.specs.tm_cint.declared.int_types.IntType.TheVariants as Ints
use Rattle.tm_laid.specs.tm_cint.declared.operators.BinOp.{BinOp}
use Rattle.tm_laid.specs.tm_cint.declared.operators.BinOp.TheVariants as Bins
use Rattle.tm_laid.specs.tm_cint.IntTypes.{IsIn}
use Rattle.tm_laid.specs.tm_typed.declared.types.Scalar.TheVariants as Scalars
use Rattle.tm_laid.specs.Layouts.{LaidTree}
use Rattle.flow_graph.specs.concrete_values.declared.values.Value.{Value}
use Rattle.flow_graph.specs.concrete_values.declared.values.Value.TheVariants.{Number, Pointer}
use Rattle.flow_graph.specs.declared.operations.Operation.{Operation}
use Rattle.flow_graph.specs.declared.operations.Operation.TheVariants as Op
use Rattle.pointer_dom.specs.Advances.{IsInteger}
use Rattle.transfer_mem.specs.edge_actions.transfer_int.Operands.{AreValues, AreRightOperands}
use Rattle.transfer_mem.specs.edge_actions.transfer_rows.StateForms.{Temp, State, temp_value, value_of}
use Rattle.transfer_mem.specs.Applicable.{IsConstant, AreIntegers, IsOperable}
use Rattle.task_equations.specs.typed_values.Types.{IsOfType}
use Rattle.task_equations.specs.typed_values.laws.TypeLaws.{none_of_type}
use Rattle.temporary_types.specs.Sorts.{Sort, numbers, pointers, IsOfSort, Holds, HoldsNumbers}
use Rattle.temporary_types.specs.Sorts.{HoldsRight, FitsSorts, types_of}
use Rattle.task_equations.specs.state_fits.Kinds.{OfTypes}
use Rattle.task_equations.specs.state_fits.Fits.{FitsTemp}
use Rattle.task_equations.specs.state_fits.laws.Exact.{wider_type, has_type}
use Rattle.program_equations.specs.Programs.{IsTested}

-- ## Numbers

integer : (t : IntType) (n : ℤ) → IsIn t n → IsInteger n
integer Ints.Bool n h = record { low = omega (arith, ints, h.at_least); high = omega (arith, ints, h.at_most) }
integer Ints.Char n h = record { low = omega (arith, ints, h.at_least); high = omega (arith, ints, h.at_most) }
integer Ints.UChar n h = record { low = omega (arith, ints, h.at_least); high = omega (arith, ints, h.at_most) }
integer Ints.Short n h = record { low = omega (arith, ints, h.at_least); high = omega (arith, ints, h.at_most) }
integer Ints.UShort n h = record { low = omega (arith, ints, h.at_least); high = omega (arith, ints, h.at_most) }
integer Ints.Int n h = record { low = omega (arith, ints, h.at_least); high = omega (arith, ints, h.at_most) }
integer Ints.UInt n h = record { low = omega (arith, ints, h.at_least); high = omega (arith, ints, h.at_most) }
integer Ints.Long n h = record { low = omega (arith, ints, h.at_least); high = omega (arith, ints, h.at_most) }
integer Ints.ULong n h = record { low = omega (arith, ints, h.at_least); high = omega (arith, ints, h.at_most) }
integer Ints.LLong n h = record { low = omega (arith, ints, h.at_least); high = omega (arith, ints, h.at_most) }
integer Ints.ULLong n h = record { low = omega (arith, ints, h.at_least); high = omega (arith, ints, h.at_most) }

in_reach : (n : ℤ) → IsInteger n → IsInReach n
in_reach n h = record { low = omega (arith, ints, h.low); high = omega (arith, ints, h.high) }

number_in_reach : (s : Sort) (n : ℤ) → IsOfSort s (Number n) → IsInReach n
number_in_reach (numbers t) n h = in_reach n (integer t n h)
number_in_reach pointers n h = absurd h

constant_in_reach : (s : Sort) (v : Value) → IsOfSort s v → IsConstant v
constant_in_reach s (Number n) h = number_in_reach s n h
constant_in_reach s (Pointer p) h = tt

module _ (laid : LaidTree) (sorts : List Sort) (s : State)
    (typed : (t : ℕ) → IsOfType laid (types_of sorts t) (value_of s t)) where
  -- ## Operands

  are_values : (temp : ℕ) (of : IntType) → Holds sorts temp (numbers of) → AreValues of (value_of s temp).numbers
  are_values temp of h =
      let wide : IsOfType laid (Scalars.Int of) (value_of s temp) =
      wider_type laid h.0 (numbers of) (value_of s temp) h.2
      (subst (λ z. IsOfType laid z (value_of s temp)) (has_type laid sorts temp h.0 h.1) (typed temp)) in wide.0

  are_integers : (temp : ℕ) → HoldsNumbers sorts temp → AreIntegers s temp
  are_integers temp h n is = integer h.0 n ((are_values temp h.0 h.1).all n is)

  right_values : (operator : BinOp) (of : IntType) (temp : ℕ) → HoldsRight sorts operator of temp
      → AreRightOperands operator of (value_of s temp).numbers
  right_values Bins.Shl of temp h = record { all = λ y is. tt }
  right_values Bins.Shr of temp h = record { all = λ y is. tt }
  right_values Bins.Add of temp h = record { all = (are_values temp of h).all }
  right_values Bins.Sub of temp h = record { all = (are_values temp of h).all }
  right_values Bins.Mul of temp h = record { all = (are_values temp of h).all }
  right_values Bins.Div of temp h = record { all = (are_values temp of h).all }
  right_values Bins.Rem of temp h = record { all = (are_values temp of h).all }
  right_values Bins.Lt of temp h = record { all = (are_values temp of h).all }
  right_values Bins.Le of temp h = record { all = (are_values temp of h).all }
  right_values Bins.Gt of temp h = record { all = (are_values temp of h).all }
  right_values Bins.Ge of temp h = record { all = (are_values temp of h).all }
  right_values Bins.Eq of temp h = record { all = (are_values temp of h).all }
  right_values Bins.Ne of temp h = record { all = (are_values temp of h).all }
  right_values Bins.And of temp h = record { all = (are_values temp of h).all }
  right_values Bins.Or of temp h = record { all = (are_values temp of h).all }
  right_values Bins.Xor of temp h = record { all = (are_values temp of h).all }

  -- ## Operations

  operable : (op : Operation) → FitsSorts laid sorts op → IsTested op → IsOperable op s
  operable Op.Skip h k = tt
  operable (Op.Const to value) h k = constant_in_reach h.1.0 value h.1.2
  operable (Op.Copy to from) h k = tt
  operable (Op.Un to operator of from place) h k = are_values from of h.0
  operable (Op.Bin to operator of left right place) h k =
      (are_values left of h.0.0, right_values operator of right h.0.1)
  operable (Op.BinPointers to equal left right) h k = tt
  operable (Op.Convert to was of from) h k = tt
  operable (Op.Base to object) h k = tt
  operable (Op.Offset to from cells) h k = tt
  operable (Op.Index to from count cells by place) h k = tt
  operable (Op.Move to from cells minus by place) h k = are_integers by h.0.1
  operable (Op.Deref to from target path place) h k = tt
  operable (Op.Load to address scalar place) h k = tt
  operable (Op.LoadAny to address scalar place) h k = tt
  operable (Op.Store address value scalar into place) h k = tt
  operable (Op.Any to low high) h k = (number_in_reach h.1.0 low h.1.2.0, number_in_reach h.1.0 high h.1.2.1)
  operable (Op.Clear object) h k = tt
  operable (Op.Usable pointer place) h k = tt
  operable (Op.Assume test) h k = k
  operable (Op.Lock mutex place) h k = h.0.1
  operable (Op.Unlock mutex place) h k = h.0.1
  operable Op.Yield h k = tt
  operable (Op.Probe to mutex place) h k = h.0.1

-- ## States

module _ (laid : LaidTree) (sorts : List Sort) (live : List ℕ) (s : State)
    (fits : (t : ℕ) → FitsTemp (OfTypes laid (types_of sorts)) live t (get s.temps t)) where
  typed_at : (t : ℕ) (e : Option Temp) → FitsTemp (OfTypes laid (types_of sorts)) live t e
      → IsOfType laid (types_of sorts t) (temp_value e)
  typed_at t None h = none_of_type laid (types_of sorts t)
  typed_at t (Some e) h = h.1

  -- what the operation uses has values that it is made for
  pub temps_operable : (op : Operation) → FitsSorts laid sorts op → IsTested op → IsOperable op s
  temps_operable op h k =
      operable laid sorts s (λ t. typed_at t (get s.temps t) (fits t)) op h k
