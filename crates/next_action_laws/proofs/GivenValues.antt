-- What operators give is of its kind.
use Rattle.std.proofs.Common.{◌≡◌, refl, ap, sym, subst, ℕ, Bool, true, false, ◌&&◌, Option, Some, None, T, arith, ℤ}
use Rattle.std.proofs.Common.{negsuc, ◌+ℤ◌, ◌*ℤ◌, ◌≤ℤ◌}
use Rattle.std.specs.Prelude.{pos, if◌then◌else◌, is_some, nat_le, Result, Ok, Err, int_le, int_lt, not}
use Rattle.std.proofs.lemmas.Bool.{false≢true, and_parts}
use Rattle.std.proofs.lemmas.Int.{ints}
use Rattle.cell_layout.specs.tm_cint.declared.Class.{Class}
use Rattle.cell_layout.specs.tm_cint.declared.Class.TheVariants as Classes
use Rattle.cell_layout.specs.tm_cint.declared.int_types.IntType.{IntType}
use Rattle.cell_layout.specs.tm_cint.declared.int_types.IntType.TheVariants as Ints
use Rattle.cell_layout.specs.tm_cint.declared.operators.BinOp.{BinOp}
use Rattle.cell_layout.specs.tm_cint.declared.operators.BinOp.TheVariants as Ops
use Rattle.cell_layout.specs.tm_cint.IntTypes.{IsIn, is_in, lo_of, hi_of}
use Rattle.cell_layout.specs.tm_cint.Conversions.{truth, represents_all, converted_value}
use Rattle.cell_layout.specs.tm_cint.Operators.{outcome, is_same, IsRightOperand, result_type}
use Rattle.cell_layout.proofs.low.tm_cint.Ranges.{is_in-true, IsIn-from_test}
use Rattle.cell_layout.proofs.low.tm_cint.Values.{zero_in, IsIn-between, outcome-in}
use Rattle.typed_file_laws.proofs.low.c_folds.ConvertedValues.{converted_is_in}
use Rattle.cell_layout.specs.tm_terms.declared.places.Place.{Place}
use Rattle.cell_layout.specs.tm_typed.declared.expressions.Unary.{Unary}
use Rattle.cell_layout.specs.tm_typed.declared.expressions.Unary.TheVariants as Unaries
use Rattle.cell_layout.specs.tm_typed.declared.types.Scalar.{Scalar}
use Rattle.cell_layout.specs.tm_typed.declared.types.Scalar.TheVariants as Scalars
use Rattle.cell_layout.specs.tm_typed.WellTyped.{ValueKind, a_number, a_pointer, kind_of_scalar}
use Rattle.cell_layout.specs.tm_laid.Layouts.{LaidTree}
use Rattle.cell_types.specs.concrete_values.declared.values.Pointer.{Pointer}
use Rattle.cell_types.specs.concrete_values.declared.values.Pointer.TheVariants as Pointers
use Rattle.cell_types.specs.concrete_values.declared.values.Value.{Value}
use Rattle.cell_types.specs.concrete_values.declared.values.Value.TheVariants.{Number, Pointer as APointer}
use Rattle.cell_types.specs.concrete_values.declared.values.Answer.{Answer}
use Rattle.cell_types.specs.concrete_values.declared.values.Answer.TheVariants.{Given, Done}
use Rattle.cell_types.specs.concrete_values.declared.actions.Next.TheVariants as Acts
use Rattle.cell_types.specs.concrete_values.Values.{number_of, pointer_of, number_in, nothing}
use Rattle.cell_types.specs.concrete_values.Operators.{number_result, right_number, binary, unary, converted}
use Rattle.cell_types.specs.concrete_values.Pointers.{placed, size_of, pointer_in, shifted, or_class, directed, moved}
use Rattle.cell_types.specs.concrete_values.Pointers.{is_object_at, is_dereferenceable, dereferenced}
use Rattle.cell_types.specs.concrete_values.Actions.{is_pointer, is_of, value_if, answer_of}
use Rattle.concrete_steps.specs.NextAction.{zero_of, converted_result, compound_result}
use Rattle.next_action_laws.proofs.Keeping.{HasKind}

holds : (p : Bool) → p ≡ true → T p
holds true e = tt
holds false e = absurd (false≢true e)

-- ## Integers

number_in_is : (t : IntType) (v : Value) → IsIn t (number_in t v)
unfolding number_in
number_in_is t v = by_test (is_in t (number_of v)) refl
  where
    by_test : (b : Bool) → is_in t (number_of v) ≡ b → IsIn t (if b then number_of v else pos 0)
    by_test true e = IsIn-from_test t (number_of v) e
    by_test false e = zero_in t

right_is : (op : BinOp) (t : IntType) (v : Value) → IsRightOperand op t (right_number op t v)
right_is Ops.Add t v = number_in_is t v
right_is Ops.Sub t v = number_in_is t v
right_is Ops.Mul t v = number_in_is t v
right_is Ops.Div t v = number_in_is t v
right_is Ops.Rem t v = number_in_is t v
right_is Ops.Shl t v = tt
right_is Ops.Shr t v = tt
right_is Ops.And t v = number_in_is t v
right_is Ops.Or t v = number_in_is t v
right_is Ops.Xor t v = number_in_is t v
right_is Ops.Lt t v = number_in_is t v
right_is Ops.Le t v = number_in_is t v
right_is Ops.Gt t v = number_in_is t v
right_is Ops.Ge t v = number_in_is t v
right_is Ops.Eq t v = number_in_is t v
right_is Ops.Ne t v = number_in_is t v

one_in : (t : IntType) → IsIn t (pos 1)
one_in Ints.Bool = record { at_least = omega (arith, ints); at_most = omega (arith, ints) }
one_in Ints.Char = record { at_least = omega (arith, ints); at_most = omega (arith, ints) }
one_in Ints.UChar = record { at_least = omega (arith, ints); at_most = omega (arith, ints) }
one_in Ints.Short = record { at_least = omega (arith, ints); at_most = omega (arith, ints) }
one_in Ints.UShort = record { at_least = omega (arith, ints); at_most = omega (arith, ints) }
one_in Ints.Int = record { at_least = omega (arith, ints); at_most = omega (arith, ints) }
one_in Ints.UInt = record { at_least = omega (arith, ints); at_most = omega (arith, ints) }
one_in Ints.Long = record { at_least = omega (arith, ints); at_most = omega (arith, ints) }
one_in Ints.ULong = record { at_least = omega (arith, ints); at_most = omega (arith, ints) }
one_in Ints.LLong = record { at_least = omega (arith, ints); at_most = omega (arith, ints) }
one_in Ints.ULLong = record { at_least = omega (arith, ints); at_most = omega (arith, ints) }

-- the least and the greatest value of a type
pub low_in : (t : IntType) → IsIn t (lo_of t)
low_in Ints.Bool = record { at_least = omega (arith, ints); at_most = omega (arith, ints) }
low_in Ints.Char = record { at_least = omega (arith, ints); at_most = omega (arith, ints) }
low_in Ints.UChar = record { at_least = omega (arith, ints); at_most = omega (arith, ints) }
low_in Ints.Short = record { at_least = omega (arith, ints); at_most = omega (arith, ints) }
low_in Ints.UShort = record { at_least = omega (arith, ints); at_most = omega (arith, ints) }
low_in Ints.Int = record { at_least = omega (arith, ints); at_most = omega (arith, ints) }
low_in Ints.UInt = record { at_least = omega (arith, ints); at_most = omega (arith, ints) }
low_in Ints.Long = record { at_least = omega (arith, ints); at_most = omega (arith, ints) }
low_in Ints.ULong = record { at_least = omega (arith, ints); at_most = omega (arith, ints) }
low_in Ints.LLong = record { at_least = omega (arith, ints); at_most = omega (arith, ints) }
low_in Ints.ULLong = record { at_least = omega (arith, ints); at_most = omega (arith, ints) }

pub high_in : (t : IntType) → IsIn t (hi_of t)
high_in Ints.Bool = record { at_least = omega (arith, ints); at_most = omega (arith, ints) }
high_in Ints.Char = record { at_least = omega (arith, ints); at_most = omega (arith, ints) }
high_in Ints.UChar = record { at_least = omega (arith, ints); at_most = omega (arith, ints) }
high_in Ints.Short = record { at_least = omega (arith, ints); at_most = omega (arith, ints) }
high_in Ints.UShort = record { at_least = omega (arith, ints); at_most = omega (arith, ints) }
high_in Ints.Int = record { at_least = omega (arith, ints); at_most = omega (arith, ints) }
high_in Ints.UInt = record { at_least = omega (arith, ints); at_most = omega (arith, ints) }
high_in Ints.Long = record { at_least = omega (arith, ints); at_most = omega (arith, ints) }
high_in Ints.ULong = record { at_least = omega (arith, ints); at_most = omega (arith, ints) }
high_in Ints.LLong = record { at_least = omega (arith, ints); at_most = omega (arith, ints) }
high_in Ints.ULLong = record { at_least = omega (arith, ints); at_most = omega (arith, ints) }

-- every type has the value of a comparison
truth_in : (t : IntType) (b : Bool) (r : ℤ) → Ok (truth b) ≡ (let x : Result ℤ Class = Ok r in x) → IsIn t r
truth_in t true r e = let q : pos 1 ≡ r = cc in subst (λ (z : ℤ). IsIn t z) q (one_in t)
truth_in t false r e = let q : pos 0 ≡ r = cc in subst (λ (z : ℤ). IsIn t z) q (zero_in t)

-- what an operator gives is a value of the type in which it works
own_in : (op : BinOp) (t : IntType) (a b r : ℤ) → IsIn t a → IsRightOperand op t b → outcome op t a b ≡ Ok r → IsIn t r
own_in Ops.Add t a b r h k e = outcome-in Ops.Add t a b r h k e
own_in Ops.Sub t a b r h k e = outcome-in Ops.Sub t a b r h k e
own_in Ops.Mul t a b r h k e = outcome-in Ops.Mul t a b r h k e
own_in Ops.Div t a b r h k e = outcome-in Ops.Div t a b r h k e
own_in Ops.Rem t a b r h k e = outcome-in Ops.Rem t a b r h k e
own_in Ops.Shl t a b r h k e = outcome-in Ops.Shl t a b r h k e
own_in Ops.Shr t a b r h k e = outcome-in Ops.Shr t a b r h k e
own_in Ops.And t a b r h k e = outcome-in Ops.And t a b r h k e
own_in Ops.Or t a b r h k e = outcome-in Ops.Or t a b r h k e
own_in Ops.Xor t a b r h k e = outcome-in Ops.Xor t a b r h k e
own_in Ops.Lt t a b r h k e = truth_in t (int_lt a b) r e
own_in Ops.Le t a b r h k e = truth_in t (int_le a b) r e
own_in Ops.Gt t a b r h k e = truth_in t (int_lt b a) r e
own_in Ops.Ge t a b r h k e = truth_in t (int_le b a) r e
own_in Ops.Eq t a b r h k e = truth_in t (is_same a b) r e
own_in Ops.Ne t a b r h k e = truth_in t (not (is_same a b)) r e

≤ℤ_trans : (x y z : ℤ) → x ≤ℤ y → y ≤ℤ z → x ≤ℤ z
≤ℤ_trans x y z h k = omega (arith, ints)

module _ (laid : LaidTree) where
  pub number_is : (t : IntType) (z : ℤ) → IsIn t z → HasKind laid (a_number t) (Number z)
  unfolding is_of
  number_is t z h = is_in-true t z h

  by_number : (t : IntType) (n : ℤ) (v : Value) → IsIn t n → (let x : Result Value Class = Ok (Number n) in x) ≡ Ok v
      → HasKind laid (a_number t) v
  by_number t n v h e = let q : Number n ≡ v = cc in
      subst (λ (z : Value). HasKind laid (a_number t) z) q (number_is t n h)

  pub binary_is : (op : BinOp) (t : IntType) (x y v : Value) → binary op t x y ≡ Ok v
      → HasKind laid (a_number (result_type op t)) v
  unfolding binary
  binary_is op t x y v e = by_outcome (outcome op t (number_in t x) (right_number op t y)) refl e
    where
      by_outcome : (r : Result ℤ Class) → outcome op t (number_in t x) (right_number op t y) ≡ r
          → number_result r ≡ Ok v → HasKind laid (a_number (result_type op t)) v
      by_outcome (Ok n) q f = by_number (result_type op t) n v
          (outcome-in op t (number_in t x) (right_number op t y) n (number_in_is t x) (right_is op t y) q) f
      by_outcome (Err c) q f = absurd cc

  binary_own : (op : BinOp) (t : IntType) (x y v : Value) → binary op t x y ≡ Ok v → HasKind laid (a_number t) v
  unfolding binary
  binary_own op t x y v e = by_outcome (outcome op t (number_in t x) (right_number op t y)) refl e
    where
      by_outcome : (r : Result ℤ Class) → outcome op t (number_in t x) (right_number op t y) ≡ r
          → number_result r ≡ Ok v → HasKind laid (a_number t) v
      by_outcome (Ok n) q f = by_number t n v
          (own_in op t (number_in t x) (right_number op t y) n (number_in_is t x) (right_is op t y) q) f
      by_outcome (Err c) q f = absurd cc

  negated_is : (t : IntType) (x v : Value) (r : Result ℤ Class) → outcome Ops.Sub t (pos 0) (number_in t x) ≡ r
      → number_result r ≡ Ok v → HasKind laid (a_number t) v
  negated_is t x v (Ok n) q f =
      by_number t n v (own_in Ops.Sub t (pos 0) (number_in t x) n (zero_in t) (number_in_is t x) q) f
  negated_is t x v (Err c) q f = absurd cc

  pub unary_is : (o : Unary) (t : IntType) (x v : Value) → unary o t x ≡ Ok v → HasKind laid (a_number t) v
  unfolding unary
  unary_is Unaries.Negate t x v e = negated_is t x v (outcome Ops.Sub t (pos 0) (number_in t x)) refl e
  unary_is Unaries.Complement t x v e = by_number t _ v (converted_is_in t _) e

  wider : (from to : IntType) (x : Value) → represents_all to from ≡ true → HasKind laid (a_number from) x
      → HasKind laid (a_number to) x
  unfolding is_of
  wider from to (Number n) e h =
      let both = and_parts (int_le (lo_of to) (lo_of from)) (int_le (hi_of from) (hi_of to)) e in
      let is : IsIn from n = IsIn-from_test from n h in
      let low : lo_of to ≤ℤ lo_of from = record { le = holds _ both.0 } in
      let high : hi_of from ≤ℤ hi_of to = record { le = holds _ both.1 } in
      is_in-true to n (record {
        at_least = ≤ℤ_trans (lo_of to) (lo_of from) n low is.at_least;
        at_most = ≤ℤ_trans n (hi_of from) (hi_of to) is.at_most high;
      })
  wider from to (APointer p) e h = absurd (false≢true h)

  pub converted_is : (from to : IntType) (x : Value) → HasKind laid (a_number from) x
      → HasKind laid (a_number to) (converted from to x)
  unfolding converted
  converted_is from to x h = by_test (represents_all to from) refl
    where
      by_test : (b : Bool) → represents_all to from ≡ b
          → HasKind laid (a_number to) (if b then x else Number (converted_value (number_of x) to))
      by_test true e = wider from to x e h
      by_test false e = number_is to (converted_value (number_of x) to) (converted_is_in to (number_of x))

  pub compound_is : (op : BinOp) (cell of : IntType) (x y v : Value) → compound_result op cell of x y ≡ Ok v
      → HasKind laid (a_number cell) v
  compound_is op cell of x y v e = by_result (binary op of (converted cell of x) y) refl e
    where
      by_result : (r : Result Value Class) → binary op of (converted cell of x) y ≡ r
          → converted_result of cell r ≡ Ok v → HasKind laid (a_number cell) v
      by_result (Ok u) q f =
          let same : converted of cell u ≡ v = cc in
          subst (λ (z : Value). HasKind laid (a_number cell) z) same
          (converted_is of cell u (binary_own op of (converted cell of x) y u q))
      by_result (Err c) q f = absurd cc

  pub between_is : (t : IntType) (low high : ℤ) (x : Answer) (v : Value) → IsIn t low → IsIn t high
      → answer_of laid (Acts.Chosen low high) x ≡ Some v → HasKind laid (a_number t) v
  unfolding answer_of
  between_is t low high Done v l h e = absurd cc
  between_is t low high (Given (APointer p)) v l h e = absurd cc
  between_is t low high (Given (Number n)) v l h e = by_test (int_le low n && int_le n high) refl e
    where
      by_test : (b : Bool) → (int_le low n && int_le n high) ≡ b → value_if b (Number n) ≡ Some v
          → HasKind laid (a_number t) v
      by_test true q f =
          let both = and_parts (int_le low n) (int_le n high) q in
          let is : IsIn t n = IsIn-between t low n high l h (record { le = holds _ both.0 })
          (record { le = holds _ both.1 }) in
          let same : Number n ≡ v = cc in
          subst (λ (z : Value). HasKind laid (a_number t) z) same (number_is t n is)
      by_test false q f = absurd cc

  pub probed_is : (m : ℕ) (p : Place) (x : Answer) (v : Value) → answer_of laid (Acts.Probe m p) x ≡ Some v
      → HasKind laid (a_number Ints.Int) v
  unfolding answer_of
  probed_is m p Done v e = absurd cc
  probed_is m p (Given u) v e = between_is Ints.Int (pos 0) (pos 1) (Given u) v (zero_in Ints.Int) (one_in Ints.Int) e

  -- ## Pointers

  placed_is : (size : Option ℕ) (o : ℕ) (z : ℤ) (q : Pointer) → placed size o z ≡ Some q → (k : ℕ)
      × (q ≡ Pointers.To o k) × (is_some (placed size o (pos k)) ≡ true)
  placed_is None o z q e = absurd cc
  placed_is (Some s) o (negsuc k) q e = absurd cc
  placed_is (Some s) o (pos k) q e = by_test (nat_le k s) refl e
    where
      by_test : (b : Bool) → nat_le k s ≡ b → (if b then Some (Pointers.To o k) else None) ≡ Some q → (k : ℕ)
          × (q ≡ Pointers.To o k) × (is_some (placed (Some s) o (pos k)) ≡ true)
      by_test true t f = (
        k,
        (let same : q ≡ Pointers.To o k = cc in same),
        ap (λ b. is_some (if b then Some (Pointers.To o k) else None)) t,
      )
      by_test false t f = absurd cc

  shifted_is : (p : Pointer) (z : ℤ) (q : Pointer) → shifted laid p z ≡ Some q → is_pointer laid q ≡ true
  unfolding shifted pointer_in
  shifted_is Pointers.Null z q e = absurd cc
  shifted_is Pointers.Invalid z q e = absurd cc
  shifted_is (Pointers.To o k) z q e =
      let r = placed_is (size_of laid o) o (pos k +ℤ z) q e in
      subst (λ (x : Pointer). is_pointer laid x ≡ true) (sym r.1) r.2

  pub moved_is : (minus : Bool) (cells : ℕ) (x y v : Value) → moved laid minus cells x y ≡ Ok v
      → HasKind laid a_pointer v
  unfolding moved is_of
  moved_is minus cells x y v e = by_found (shifted laid (pointer_of x) (number_of y *ℤ directed minus cells)) refl e
    where
      by_found : (o : Option Pointer) → shifted laid (pointer_of x) (number_of y *ℤ directed minus cells) ≡ o
          → or_class Classes.Pointer o ≡ Ok v → is_of laid (Scalars.Pointer 0) v ≡ true
      by_found None q f = absurd cc
      by_found (Some p) q f =
          let same : APointer p ≡ v = cc in
          subst (λ (z : Value). is_of laid (Scalars.Pointer 0) z ≡ true) same (shifted_is (pointer_of x) _ p q)

  pub nothing_is : (k : ValueKind) → k ≡ a_pointer → HasKind laid k nothing
  unfolding is_of
  nothing_is k e = subst (λ (x : ValueKind). HasKind laid x nothing) (sym e) refl

  pub null_is : HasKind laid a_pointer (APointer Pointers.Null)
  unfolding is_of
  null_is = refl

  pub zero_is : (s : Scalar) → HasKind laid (kind_of_scalar s) (zero_of s)
  unfolding is_of
  zero_is (Scalars.Int t) = number_is t (pos 0) (zero_in t)
  zero_is (Scalars.Pointer c) = refl

  -- what may be dereferenced leads to an object
  pub leads : (path n : ℕ) (v u : Value) → dereferenced laid path n v ≡ Ok u → (o k : ℕ)
      × (u ≡ APointer (Pointers.To o k)) × (is_object_at laid path o k n ≡ true)
  unfolding dereferenced is_dereferenceable pointer_of
  leads path n (Number z) u e = absurd cc
  leads path n (APointer Pointers.Null) u e = absurd cc
  leads path n (APointer Pointers.Invalid) u e = absurd cc
  leads path n (APointer (Pointers.To o k)) u e = by_test (is_object_at laid path o k n) refl e
    where
      by_test : (b : Bool) → is_object_at laid path o k n ≡ b
          → (if b then Ok (APointer (Pointers.To o k)) else Err Classes.Deref) ≡ Ok u
          → (o k : ℕ) × (u ≡ APointer (Pointers.To o k)) × (is_object_at laid path o k n ≡ true)
      by_test true t f = (o, k, (let same : u ≡ APointer (Pointers.To o k) = cc in same), t)
      by_test false t f = absurd cc
