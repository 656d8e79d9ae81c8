-- The operations of a body do what the rows say.
use Rattle.std.specs.Prelude.{◌≡◌, ◌≢◌, ℕ, ℤ, pos, Bool, true, false}
use Rattle.std.specs.Prelude.{if◌then◌else◌}
use Rattle.std.specs.Prelude.{List, Ok, Err}
use Rattle.std.specs.Prelude.{negsuc, ◌-ℤ◌, ◌≤ℤ◌, int_le, ◌==◌}
use Rattle.std.proofs.Common.{refl, sym, ap, ◌∙◌, arith}
use Rattle.std.proofs.lemmas.Int.{ints}
use Rattle.std.proofs.lemmas.Bool.{and_parts, and_from, eq-eqb, eqb-true}
use Rattle.program_shape.specs.tm_cint.declared.Class.{Class}
use Rattle.program_shape.specs.tm_cint.declared.int_types.IntType.{IntType}
use Rattle.program_shape.specs.tm_cint.declared.int_types.IntType.TheVariants as Ints
use Rattle.program_shape.specs.tm_cint.declared.operators.BinOp.{BinOp}
use Rattle.program_shape.specs.tm_cint.declared.operators.BinOp.TheVariants as Bins
use Rattle.program_shape.specs.tm_cint.IntTypes.{IsIn, lo_of, hi_of}
use Rattle.program_shape.specs.tm_cint.Conversions.{converted_value, represents_all}
use Rattle.program_shape.specs.tm_cint.Operators.{outcome, IsRightOperand}
use Rattle.program_shape.proofs.low.tm_cint.Values.{zero_in}
use Rattle.program_shape.specs.tm_typed.declared.expressions.Unary.TheVariants.{Negate, Complement}
use Rattle.program_shape.specs.tm_laid.Layouts.{LaidTree}
use Rattle.program_shape.specs.concrete_values.declared.values.Pointer.{Pointer}
use Rattle.program_shape.specs.concrete_values.declared.values.Pointer.TheVariants as Pointers
use Rattle.program_shape.specs.concrete_values.declared.values.Value.{Value}
use Rattle.program_shape.specs.concrete_values.declared.values.Value.TheVariants.{Number, Pointer as APointer}
use Rattle.program_shape.specs.concrete_values.Values.{number_of, pointer_of, number_in}
use Rattle.program_shape.specs.concrete_values.Operators.{right_number, binary, unary, converted}
use Rattle.program_shape.specs.concrete_values.Pointers.{is_same_pointer}
use Rattle.program_reports.specs.pointer_dom.Pointer.{number as a_number}
use Rattle.program_reports.specs.transfer_rows.Meanings.{IsOperation, IsFailure, IsComplement, IsConversion}
use Rattle.program_reports.specs.temporary_types.Sorts.{Sort, numbers, HoldsRight, Holds}
use Rattle.sound_tables.specs.Memberships.{scalar_as, address_as}
use Rattle.sound_tables.proofs.Covering.{address_same}
use Rattle.sound_tables.proofs.Operands.{IsOf}
use Rattle.sound_tables.proofs.Doing.{number_is, result_is, result_fails, kept_value, complement_value, true_false}

module _ (laid : LaidTree) where
  -- ## Integers

  pub negated_is : (t : IntType) (v w : Value) → IsOf laid (numbers t) v → unary Negate t v ≡ Ok w
      → IsOperation Bins.Sub t (a_number (pos 0)) (scalar_as v) (scalar_as w)
  unfolding unary
  negated_is t v w h e =
      let r = result_is (outcome Bins.Sub t (pos 0) (number_in t v)) w e in record {
        x = pos 0;
        y = h.0;
        result = r.0;
        is_left = refl;
        is_right = ap scalar_as h.1;
        is_given = ap scalar_as r.2;
        in_left = zero_in t;
        in_right = h.2;
        gives = ap (λ z. outcome Bins.Sub t (pos 0) z) (sym (number_is t v h.0 h.1 h.2)) ∙ r.1;
      }

  pub negated_fails : (t : IntType) (v : Value) (class : Class) → IsOf laid (numbers t) v → unary Negate t v ≡ Err class
      → IsFailure Bins.Sub t (a_number (pos 0)) (scalar_as v) class
  unfolding unary
  negated_fails t v class h e = record {
    x = pos 0;
    y = h.0;
    is_left = refl;
    is_right = ap scalar_as h.1;
    in_left = zero_in t;
    in_right = h.2;
    gives = ap (λ z. outcome Bins.Sub t (pos 0) z) (sym (number_is t v h.0 h.1 h.2))
        ∙ result_fails (outcome Bins.Sub t (pos 0) (number_in t v)) class e;
  }

  pub complemented_is : (t : IntType) → (t ≡ Ints.Bool → ⊥) → (v w : Value) → IsOf laid (numbers t) v
      → unary Complement t v ≡ Ok w → IsComplement t (scalar_as v) (scalar_as w)
  unfolding unary
  complemented_is t no-bool v w h e =
      let z = h.0 in
      let f : Number (converted_value (negsuc 0 -ℤ number_in t v) t) ≡ w = cc in
      record {
        x = z;
        is_operand = ap scalar_as h.1;
        in_type = h.2;
        is_given = ap scalar_as (sym f)
            ∙ ap a_number (ap (λ y. converted_value (negsuc 0 -ℤ y) t) (number_is t v z h.1 h.2)
            ∙ complement_value t z no-bool h.2);
      }

  pub number_of_is : (v : Value) (z : ℤ) → v ≡ Number z → number_of v ≡ z
  unfolding number_of
  number_of_is v z e = ap number_of e

  pub pointer_of_is : (v : Value) (q : Pointer) → v ≡ APointer q → pointer_of v ≡ q
  unfolding pointer_of
  pointer_of_is v q e = ap pointer_of e

  -- the operand at the right
  pub right_is : (op : BinOp) (t : IntType) (v : Value) (sorts : List Sort) (u : ℕ) → HoldsRight sorts op t u
      → ((s : Sort) → Holds sorts u s → IsOf laid s v)
      → (z : ℤ) × (v ≡ Number z) × (right_number op t v ≡ z) × IsRightOperand op t z
  right_is Bins.Shl t v sorts u h own =
      let k = own (numbers h.0) h.1 in (k.0, k.1, number_of_is v k.0 k.1, tt)
  right_is Bins.Shr t v sorts u h own =
      let k = own (numbers h.0) h.1 in (k.0, k.1, number_of_is v k.0 k.1, tt)
  right_is op t v sorts u h own =
      let k = own (numbers t) h in (k.0, k.1, number_is t v k.0 k.1 k.2, k.2)

  pub operated_is : (op : BinOp) (t : IntType) (v u w : Value) → IsOf laid (numbers t) v
      → (k : (z : ℤ) × (u ≡ Number z) × (right_number op t u ≡ z) × IsRightOperand op t z) → binary op t v u ≡ Ok w
      → IsOperation op t (scalar_as v) (scalar_as u) (scalar_as w)
  unfolding binary
  operated_is op t v u w h k e =
      let r = result_is (outcome op t (number_in t v) (right_number op t u)) w e in record {
        x = h.0;
        y = k.0;
        result = r.0;
        is_left = ap scalar_as h.1;
        is_right = ap scalar_as k.1;
        is_given = ap scalar_as r.2;
        in_left = h.2;
        in_right = k.3;
        gives = ap (λ z. outcome op t z k.0) (sym (number_is t v h.0 h.1 h.2))
            ∙ ap (λ z. outcome op t (number_in t v) z) (sym k.2) ∙ r.1;
      }

  pub operated_fails : (op : BinOp) (t : IntType) (v u : Value) (class : Class) → IsOf laid (numbers t) v
      → (k : (z : ℤ) × (u ≡ Number z) × (right_number op t u ≡ z) × IsRightOperand op t z)
      → binary op t v u ≡ Err class → IsFailure op t (scalar_as v) (scalar_as u) class
  unfolding binary
  operated_fails op t v u class h k e = record {
    x = h.0;
    y = k.0;
    is_left = ap scalar_as h.1;
    is_right = ap scalar_as k.1;
    in_left = h.2;
    in_right = k.3;
    gives = ap (λ z. outcome op t z k.0) (sym (number_is t v h.0 h.1 h.2))
        ∙ ap (λ z. outcome op t (number_in t v) z) (sym k.2)
        ∙ result_fails (outcome op t (number_in t v) (right_number op t u)) class e;
  }

  wider_in : (u t : IntType) → represents_all t u ≡ true → (z : ℤ) → IsIn u z → IsIn t z
  wider_in u t h z k =
      let both = and_parts (int_le (lo_of t) (lo_of u)) (int_le (hi_of u) (hi_of t)) h in
      let low = is_le (lo_of t) (lo_of u) both.0 in
      let high = is_le (hi_of u) (hi_of t) both.1 in
      record {
        at_least = through (lo_of t) (lo_of u) z low k.at_least;
        at_most = through z (hi_of u) (hi_of t) k.at_most high;
      }
    where
      is_le : (x y : ℤ) → int_le x y ≡ true → x ≤ℤ y
      is_le x y e = omega (arith, ints)

      through : (x y w : ℤ) → x ≤ℤ y → y ≤ℤ w → x ≤ℤ w
      through x y w l m = omega (arith, ints)

  converted_by : (b : Bool) (was t : IntType) (v : Value) → represents_all t was ≡ b → IsOf laid (numbers was) v
      → IsConversion t (scalar_as v) (scalar_as (if b then v else Number (converted_value (number_of v) t)))
  converted_by true was t v same h = record {
    x = h.0;
    is_operand = ap scalar_as h.1;
    is_given = ap scalar_as h.1 ∙ ap a_number (sym (kept_value t h.0 (wider_in was t same h.0 h.2)));
  }
  converted_by false was t v same h = record {
    x = h.0;
    is_operand = ap scalar_as h.1;
    is_given = ap (λ z. a_number (converted_value z t)) (number_of_is v h.0 h.1);
  }

  pub converted_is : (was t : IntType) (v : Value) → IsOf laid (numbers was) v
      → IsConversion t (scalar_as v) (scalar_as (converted was t v))
  unfolding converted
  converted_is was t v h = converted_by (represents_all t was) was t v refl h

  -- ## Pointers

  pub same_pointer : (a c : Pointer) → is_same_pointer a c ≡ true → a ≡ c
  same_pointer Pointers.Null Pointers.Null e = refl
  same_pointer Pointers.Invalid Pointers.Invalid e = refl
  same_pointer (Pointers.To o k) (Pointers.To q j) e =
      let both = and_parts (o == q) (k == j) e in
      ap (λ z. Pointers.To z k) (eqb-true o q both.0) ∙ ap (λ z. Pointers.To q z) (eqb-true k j both.1)
  same_pointer a c e = absurd (cc)

  pub pointer_self : (a : Pointer) → is_same_pointer a a ≡ true
  pointer_self Pointers.Null = refl
  pointer_self Pointers.Invalid = refl
  pointer_self (Pointers.To o k) = and_from (o == o) (k == k) (eq-eqb o o refl) (eq-eqb k k refl)

  pub other_pointer : (a c : Pointer) → is_same_pointer a c ≡ false → address_as a ≢ address_as c
  other_pointer a c e same =
      let f : a ≡ c = address_same a c same in
      true_false (is_same_pointer a a) (pointer_self a) (ap (is_same_pointer a) f ∙ e)

  pub pointer_scalar : (a : Pointer) → scalar_as (APointer a) ≡ address_as a
  pointer_scalar a = refl
