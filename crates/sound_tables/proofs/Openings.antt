-- What a cell may hold that was cleared is in what its abstract cell becomes.
use Rattle.std.specs.Prelude.{◌≡◌, ℕ, zero, suc, ◌+◌, ◌&&◌, nat_le, nat_lt, ℤ, pos, negsuc, ◌-ℤ◌, ◌≤ℤ◌}
use Rattle.std.specs.Prelude.{nat_abs, true, cond, Some, None}
use Rattle.std.proofs.Common.{inl, inr, refl, sym, ap, subst, arith}
use Rattle.std.proofs.lemmas.Int.{ints}
use Rattle.std.proofs.lemmas.Bool.{and_parts, and_from, cases_Bool}
use Rattle.program_shape.proofs.low.tm_cint.Ranges.{IsIn-from_test}
use Rattle.program_reports.proofs.low.edge_actions.Lists.{le_test, le_from, lt_test, lt_from}
use Rattle.program_shape.specs.strided_dom.Progression.{Has}
use Rattle.program_shape.specs.tm_cint.declared.int_types.IntType.{IntType}
use Rattle.program_shape.specs.tm_cint.IntTypes.{lo_of, hi_of, is_in}
use Rattle.program_shape.specs.tm_typed.declared.types.Scalar.{Scalar}
use Rattle.program_shape.specs.tm_typed.declared.types.Scalar.TheVariants as Scalars
use Rattle.program_shape.specs.tm_laid.Layouts.{LaidTree, object_at, abstract_at}
use Rattle.program_shape.specs.concrete_values.declared.values.Pointer.TheVariants as Pointers
use Rattle.program_shape.specs.concrete_values.declared.values.Value.{Value}
use Rattle.program_shape.specs.concrete_values.declared.values.Value.TheVariants.{Number, Pointer as APointer}
use Rattle.program_shape.specs.concrete_values.Actions.{is_of}
use Rattle.program_shape.specs.flow_graph.Graphs.{IsOfObject}
use Rattle.program_reports.specs.pointer_dom.Values.{IsValueIn}
use Rattle.program_reports.specs.edge_actions.Layouts.{numbers_up, numbers_between, numbers_of_type, open_value}
use Rattle.program_reports.specs.edge_actions.Edges.{cleared_value}
use Rattle.program_shape.specs.tm_soundness.Shape.{Content, given, open_cell, Reads, reads_given, reads_open}
use Rattle.program_shape.specs.Shape.{Parts, shape_of, cleared_as}
use Rattle.sound_tables.specs.Memberships.{scalar_as}

-- ## Numbers of a type

has_up : (low high z by : ℤ) → high -ℤ low ≡ by → low ≤ℤ z → z ≤ℤ high → Has (numbers_up low by) z
unfolding Has
has_up low high z (pos zero) e from to = omega (arith, ints, from, to, e)
has_up low high z (pos (suc more)) e from to =
    (nat_abs (z -ℤ low), (omega (arith, ints, from, to, e), omega (arith, ints, from)))
has_up low high z (negsuc n) e from to = absurd (omega (arith, ints, from, to, e))

pub has_between : (low high z : ℤ) → low ≤ℤ z → z ≤ℤ high → Has (numbers_between low high) z
has_between low high z from to = has_up low high z (high -ℤ low) refl from to

pub has_of_type : (t : IntType) (z : ℤ) → is_in t z ≡ true → Has (numbers_of_type t) z
has_of_type t z h =
    let k = IsIn-from_test t z h in has_between (lo_of t) (hi_of t) z k.at_least k.at_most

-- a value of an integer type is one of its numbers
pub typed_number : (laid : LaidTree) (t : IntType) (v : Value) → is_of laid (Scalars.Int t) v ≡ true
    → IsValueIn (open_value (Scalars.Int t)) (scalar_as v)
unfolding is_of
typed_number laid t (Number z) h = has_of_type t z h
typed_number laid t (APointer q) h = absurd (cc)

-- ## Reads

module _ (x : Parts) where
  given_is : (y : ℕ) (c : Content Value) (v w : Value) → Reads (shape_of x) y c v → c ≡ given w → v ≡ w
  given_is y (given u) v w (reads_given {v = v'}) e = cc
  given_is y open_cell v w (reads_open range) e = absurd (cc)

  open_is : (y : ℕ) (c : Content Value) (v : Value) → Reads (shape_of x) y c v → c ≡ open_cell
      → is_of x.laid (abstract_at x.laid y).scalar v ≡ true
  open_is y (given u) v (reads_given {v = v'}) e = absurd (cc)
  open_is y open_cell v (reads_open range) e = range

  -- what may be read from a cleared cell
  pub read_open : (y : ℕ) (s : Scalar) (v : Value) → Reads (shape_of x) y (cleared_as s) v
      → (abstract_at x.laid y).scalar ≡ s → IsValueIn (open_value s) (scalar_as v)
  read_open y (Scalars.Int t) v r e =
      typed_number x.laid t v (subst (λ z. is_of x.laid z v ≡ true) e (open_is y open_cell v r refl))
  read_open y (Scalars.Pointer c) v r e =
      let is = given_is y (given (APointer Pointers.Invalid)) v (APointer Pointers.Invalid) r refl in
      subst (λ z. IsValueIn (open_value (Scalars.Pointer c)) (scalar_as z)) (sym is) refl

-- ## Which abstract cells are cleared

module _ (laid : LaidTree) (object x : ℕ) where
  abbrev low : ℕ
  low = (object_at laid object).first_abstract

  abbrev count : ℕ
  count = (object_at laid object).abstract_cells

  pub cleared_in : IsOfObject laid object x
      → cleared_value laid object x ≡ Some (open_value (abstract_at laid x).scalar)
  cleared_in h =
      ap (λ b. cond b (Some (open_value (abstract_at laid x).scalar)) None)
      (and_from (nat_le low x) (nat_lt x (low + count)) (le_test low x h.0) (lt_test x (low + count) h.1))

  pub cleared_out : (IsOfObject laid object x → ⊥) → cleared_value laid object x ≡ None
  cleared_out h =
      elim (cases_Bool (nat_le low x && nat_lt x (low + count))) [
        | inl in-range ↦ (let k = and_parts (nat_le low x) (nat_lt x (low + count)) in-range in
            absurd (h (le_from low x k.0, lt_from x (low + count) k.1)))
        | inr out ↦ ap (λ b. cond b (Some (open_value (abstract_at laid x).scalar)) None) out
      ]
