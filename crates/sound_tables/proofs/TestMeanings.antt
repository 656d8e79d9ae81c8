-- What a test lets through is what its filter lets pass.
use Rattle.std.specs.Prelude.{◌≡◌, ◌≢◌, ℕ, zero, suc, ℤ, pos, negsuc, ◌≤ℤ◌, ◌<ℤ◌, int_le, int_lt, Bool, true}
use Rattle.std.specs.Prelude.{false}
use Rattle.std.specs.Prelude.{not, Ok}
use Rattle.std.proofs.Common.{refl, sym, ap, subst, ◌∙◌, inl, inr, arith}
use Rattle.std.proofs.lemmas.Int.{ints}
use Rattle.std.proofs.lemmas.Bool.{and_parts, and_from, not-true, not-false}
use Rattle.program_shape.specs.strided_dom.Progression.{single, Has}
use Rattle.program_shape.specs.tm_cint.declared.int_types.IntType.{IntType}
use Rattle.program_shape.specs.tm_cint.declared.operators.BinOp.{BinOp}
use Rattle.program_shape.specs.tm_cint.declared.operators.BinOp.TheVariants as Bins
use Rattle.program_shape.specs.tm_cint.IntTypes.{lo_of, hi_of}
use Rattle.program_shape.specs.tm_cint.Conversions.{truth, is_zero}
use Rattle.program_shape.specs.tm_cint.Operators.{outcome, is_same, IsComparison}
use Rattle.program_shape.specs.tm_laid.Layouts.{LaidTree}
use Rattle.program_shape.specs.concrete_values.declared.values.Pointer.{Pointer}
use Rattle.program_shape.specs.concrete_values.declared.values.Pointer.TheVariants as Pointers
use Rattle.program_shape.specs.concrete_values.declared.values.Value.{Value}
use Rattle.program_shape.specs.concrete_values.declared.values.Value.TheVariants.{Number, Pointer as APointer}
use Rattle.program_shape.specs.concrete_values.Values.{number_of, pointer_of, number_in, is_true, is_null, truth_value}
use Rattle.program_shape.specs.concrete_values.Operators.{number_result, right_number, binary, is_case}
use Rattle.program_shape.specs.concrete_values.Pointers.{is_compared, is_same_pointer, usable}
use Rattle.program_shape.specs.flow_graph.declared.operations.Test.TheVariants as Tests
use Rattle.program_shape.specs.flow_graph.Operations.{Temps, is_given_true, is_as}
use Rattle.program_reports.specs.pointer_dom.Pointer.{ScalarValue, null, number as a_number, pointer as a_pointer}
use Rattle.program_reports.specs.pointer_dom.Pointer as scalars
use Rattle.program_reports.specs.transfer_rows.Meanings.{NumbersCompare, PointersCompare, Passes}
use Rattle.program_reports.specs.transfer_rows.Meanings.{IsComparison as IsCompared}
use Rattle.program_reports.specs.pointer_dom.Equality.{IsEqualityOf}
use Rattle.program_reports.specs.transfer_rows.Actions.{temporary}
use Rattle.program_reports.specs.edge_actions.Edges.{filter_of}
use Rattle.program_reports.specs.filters.Partners.{Compares}
use Rattle.program_reports.specs.temporary_types.Sorts.{Sort, numbers, pointers, Within}
use Rattle.sound_tables.specs.Memberships.{scalar_as, scalars_as, address_as}
use Rattle.sound_tables.proofs.Operands.{IsOf}
use Rattle.sound_tables.proofs.Doing.{number_is, true_false}
use Rattle.sound_tables.proofs.Meaning.{number_of_is, pointer_of_is, same_pointer, other_pointer}

-- ## Numbers

truth_holds : (b : Bool) → is_given_true (Ok (Number (truth b))) ≡ true → b ≡ true
unfolding is_true
truth_holds true h = refl
truth_holds false h = absurd (cc)

same_number : (x y : ℤ) → is_same x y ≡ true → x ≡ y
same_number x y h =
    let k = and_parts (int_le x y) (int_le y x) h in both x y k.0 k.1
  where
    both : (a b : ℤ) → int_le a b ≡ true → int_le b a ≡ true → a ≡ b
    both a b e f = omega (arith, ints)

not_below : (a : ℤ) → int_le a a ≡ false → ⊥
not_below a g = grind (arith, ints)

le_self : (a : ℤ) → int_le a a ≡ true
le_self a = by_case (int_le a a) refl
  where
    by_case : (b : Bool) → int_le a a ≡ b → int_le a a ≡ true
    by_case true g = g
    by_case false g = absurd (not_below a g)

other_number : (x y : ℤ) → is_same x y ≡ false → x ≢ y
other_number x y h same =
    true_false (is_same x x) (and_from (int_le x x) (int_le x x) (le_self x) (le_self x)) (ap (is_same x) same ∙ h)

-- a comparison that is true holds
compares : (op : BinOp) → IsComparison op → (t : IntType) (x y : ℤ)
    → is_given_true (number_result (outcome op t x y)) ≡ true → Compares op x y
compares Bins.Lt c t x y h = less x y (truth_holds (int_lt x y) h)
  where
    less : (a b : ℤ) → int_lt a b ≡ true → a <ℤ b
    less a b e = omega (arith, ints)
compares Bins.Le c t x y h = below x y (truth_holds (int_le x y) h)
  where
    below : (a b : ℤ) → int_le a b ≡ true → a ≤ℤ b
    below a b e = omega (arith, ints)
compares Bins.Gt c t x y h = less y x (truth_holds (int_lt y x) h)
  where
    less : (a b : ℤ) → int_lt a b ≡ true → a <ℤ b
    less a b e = omega (arith, ints)
compares Bins.Ge c t x y h = below y x (truth_holds (int_le y x) h)
  where
    below : (a b : ℤ) → int_le a b ≡ true → a ≤ℤ b
    below a b e = omega (arith, ints)
compares Bins.Eq c t x y h = same_number x y (truth_holds (is_same x y) h)
compares Bins.Ne c t x y h =
    other_number x y (not-true (is_same x y) (truth_holds (not (is_same x y)) h))
compares op c t x y h = absurd c

-- the right side of a comparison is a number of its type
compared_right : (op : BinOp) → IsComparison op → (t : IntType) (v : Value)
    → right_number op t v ≡ number_in t v
compared_right Bins.Lt c t v = refl
compared_right Bins.Le c t v = refl
compared_right Bins.Gt c t v = refl
compared_right Bins.Ge c t v = refl
compared_right Bins.Eq c t v = refl
compared_right Bins.Ne c t v = refl
compared_right op c t v = absurd c

abbrev pub compares_as : Bool → Bool → Bool
compares_as true b = b
compares_as false b = not b

pub within_self : (s : Sort) → Within s s
within_self (numbers t) = and_from (int_le (lo_of t) (lo_of t)) (int_le (hi_of t) (hi_of t)) (le_self (lo_of t))
    (le_self (hi_of t))
within_self pointers = tt

module _ (laid : LaidTree) (temps : Temps) where
  pub numbers_pass : (op : BinOp) → IsComparison op → (t : IntType) (l r : ℕ) → IsOf laid (numbers t) (temps l)
      → IsOf laid (numbers t) (temps r) → is_given_true (binary op t (temps l) (temps r)) ≡ true
      → NumbersCompare (scalars_as temps) op (temporary l) (temporary r)
  unfolding binary
  numbers_pass op c t l r h k e =
      let left-is = number_is t (temps l) h.0 h.1 h.2 in
      let right-is = compared_right op c t (temps r) ∙ number_is t (temps r) k.0 k.1 k.2 in
      record {
        x = h.0;
        y = k.0;
        at_left = ap scalar_as (sym h.1);
        at_right = ap scalar_as (sym k.1);
        holds = compares op c t h.0 k.0
            (ap (λ z. is_given_true (number_result (outcome op t z k.0))) (sym left-is)
            ∙ ap (λ z. is_given_true (number_result (outcome op t (number_in t (temps l)) z))) (sym right-is) ∙ e);
      }

  address_at : (u : ℕ) (q : Pointer) → temps u ≡ APointer q → (x : scalars.Pointer) → a_pointer x ≡ address_as q
      → a_pointer x ≡ scalar_as (temps u)
  address_at u q e x f = f ∙ ap scalar_as (sym e)

  pointer_as : (q : Pointer) → (x : scalars.Pointer) × (a_pointer x ≡ address_as q)
  pointer_as Pointers.Null = (null, refl)
  pointer_as Pointers.Invalid = (scalars.invalid, refl)
  pointer_as (Pointers.To o k) = (scalars.to o k, refl)

  pub pointers_pass : (equal : Bool) (l r : ℕ) → IsOf laid pointers (temps l) → IsOf laid pointers (temps r)
      → is_compared equal (temps l) (temps r) ≡ true
      → PointersCompare (scalars_as temps) equal (temporary l) (temporary r)
  unfolding is_compared
  pointers_pass true l r h k e =
      let a = pointer_as h.0 in
      let b = pointer_as k.0 in
      let same : h.0 ≡ k.0 = same_pointer laid h.0 k.0
      (ap (λ z. is_same_pointer z k.0) (sym (pointer_of_is laid (temps l) h.0 h.1))
      ∙ ap (λ z. is_same_pointer (pointer_of (temps l)) z) (sym (pointer_of_is laid (temps r) k.0 k.1)) ∙ e) in
      record {
        x = a.0;
        y = b.0;
        at_left = address_at l h.0 h.1 a.0 a.1;
        at_right = address_at r k.0 k.1 b.0 b.1;
        holds = inl (refl, same_inside a.0 b.0 (a.1 ∙ ap address_as same ∙ sym b.1));
      }
    where
      same_inside : (x y : scalars.Pointer) → a_pointer x ≡ a_pointer y → x ≡ y
      same_inside x y f = cc
  pointers_pass false l r h k e =
      let a = pointer_as h.0 in
      let b = pointer_as k.0 in
      let differ = other_pointer laid h.0 k.0
      (ap (λ z. is_same_pointer z k.0) (sym (pointer_of_is laid (temps l) h.0 h.1))
      ∙ ap (λ z. is_same_pointer (pointer_of (temps l)) z) (sym (pointer_of_is laid (temps r) k.0 k.1))
      ∙ not-true (is_same_pointer (pointer_of (temps l)) (pointer_of (temps r))) e) in
      record {
        x = a.0;
        y = b.0;
        at_left = address_at l h.0 h.1 a.0 a.1;
        at_right = address_at r k.0 k.1 b.0 b.1;
        holds = inl (refl, λ same. differ (sym a.1 ∙ ap a_pointer same ∙ b.1));
      }

  one_has : (z : ℤ) → Has (single z) z
  unfolding Has
  one_has z = refl

  zero_same : (z : ℤ) → is_zero z ≡ true → z ≡ pos 0
  zero_same (pos zero) e = refl
  zero_same (pos (suc n)) e = absurd (cc)
  zero_same (negsuc n) e = absurd (cc)

  zero_other : (z : ℤ) → is_zero z ≡ false → z ≢ pos 0
  zero_other z e same = true_false (is_zero z) (ap is_zero same) e

  pub number_truth : (is : Bool) (u : ℕ) (z : ℤ) → temps u ≡ Number z → is_as is (is_true (temps u)) ≡ true
      → Passes (scalars_as temps) (filter_of false (Tests.Truth is u))
  unfolding is_true
  number_truth true u z e h = record {
    x = z;
    y = pos 0;
    at_left = ap scalar_as (sym e);
    at_right = one_has (pos 0);
    holds = zero_other z (not-true (is_zero z) (ap is_true (sym e) ∙ h));
  }
  number_truth false u z e h = record {
    x = z;
    y = pos 0;
    at_left = ap scalar_as (sym e);
    at_right = one_has (pos 0);
    holds = zero_same z (not-false (is_zero z) (ap is_true (sym e) ∙ not-true (is_true (temps u)) h));
  }

  null_same : (q : Pointer) (x : scalars.Pointer) → a_pointer x ≡ address_as q → is_null q ≡ true → x ≡ null
  null_same Pointers.Null x e h = cc
  null_same Pointers.Invalid x e h = absurd (cc)
  null_same (Pointers.To o k) x e h = absurd (cc)

  null_other : (q : Pointer) (x : scalars.Pointer) → a_pointer x ≡ address_as q → is_null q ≡ false → x ≢ null
  null_other Pointers.Null x e h same = cc
  null_other Pointers.Invalid x e h same =
      let f : a_pointer null ≡ a_pointer scalars.invalid = ap a_pointer (sym same) ∙ e in cc
  null_other (Pointers.To o k) x e h same =
      let f : a_pointer null ≡ a_pointer (scalars.to o k) = ap a_pointer (sym same) ∙ e in cc

  pub pointer_truth : (is : Bool) (u : ℕ) (q : Pointer) → temps u ≡ APointer q → is_as is (is_true (temps u)) ≡ true
      → Passes (scalars_as temps) (filter_of true (Tests.Truth is u))
  unfolding is_true
  pointer_truth true u q e h =
      let a = pointer_as q in record {
        x = a.0;
        y = null;
        at_left = address_at u q e a.0 a.1;
        at_right = refl;
        holds = inl (refl, null_other q a.0 a.1 (not-true (is_null q) (ap is_true (sym e) ∙ h)));
      }
  pointer_truth false u q e h =
      let a = pointer_as q in record {
        x = a.0;
        y = null;
        at_left = address_at u q e a.0 a.1;
        at_right = refl;
        holds = inl (
          refl,
          null_same q a.0 a.1
              (not-false (is_null q) (ap is_true (sym e) ∙ not-true (is_true (temps u)) h)),
        );
      }

  pub label_passes : (pointers-are is : Bool) (label : ℤ) (u : ℕ) (z : ℤ) → temps u ≡ Number z
      → is_as is (is_case label (temps u)) ≡ true
      → Passes (scalars_as temps) (filter_of pointers-are (Tests.Case is label u))
  unfolding is_case
  label_passes flag true label u z e h = record {
    x = z;
    y = label;
    at_left = ap scalar_as (sym e);
    at_right = one_has label;
    holds = same_number z label (ap (λ y. is_same y label) (sym (number_of_is laid (temps u) z e)) ∙ h);
  }
  label_passes flag false label u z e h = record {
    x = z;
    y = label;
    at_left = ap scalar_as (sym e);
    at_right = one_has label;
    holds = other_number z label (ap (λ y. is_same y label) (sym (number_of_is laid (temps u) z e))
        ∙ not-true (is_same (number_of (temps u)) label) h);
  }

  truth_number : (b : Bool) → truth_value b ≡ Number (truth b)
  truth_number true = refl
  truth_number false = refl

  same_inside : (x y : scalars.Pointer) → a_pointer x ≡ a_pointer y → x ≡ y
  same_inside x y f = cc

  equality : (equal b : Bool) (q r : Pointer) (x y : scalars.Pointer) → a_pointer x ≡ address_as q
      → a_pointer y ≡ address_as r → is_same_pointer q r ≡ b → IsEqualityOf equal x y (truth (compares_as equal b))
  equality true true q r x y e f is = inl (refl, same_inside x y (e ∙ ap address_as (same_pointer laid q r is) ∙ sym f))
  equality true false q r x y e f is =
      inr (refl, λ same. other_pointer laid q r is (sym e ∙ ap a_pointer same ∙ f))
  equality false true q r x y e f is =
      inr (refl, same_inside x y (e ∙ ap address_as (same_pointer laid q r is) ∙ sym f))
  equality false false q r x y e f is =
      inl (refl, λ same. other_pointer laid q r is (sym e ∙ ap a_pointer same ∙ f))

  compared_by : (equal : Bool) (v u : Value)
      → is_compared equal v u ≡ compares_as equal (is_same_pointer (pointer_of v) (pointer_of u))
  unfolding is_compared
  compared_by true v u = refl
  compared_by false v u = refl

  -- the comparison of two pointers
  pub compared_is : (equal : Bool) (l r : ℕ) → IsOf laid pointers (temps l) → IsOf laid pointers (temps r)
      → IsCompared equal (scalar_as (temps l)) (scalar_as (temps r))
      (scalar_as (truth_value (is_compared equal (temps l) (temps r))))
  compared_is equal l r h k =
      let a = pointer_as h.0 in
      let b = pointer_as k.0 in
      let is = is_compared equal (temps l) (temps r) in
      let same : is_same_pointer (pointer_of (temps l)) (pointer_of (temps r)) ≡ is_same_pointer h.0 k.0 =
      ap (λ z. is_same_pointer z (pointer_of (temps r))) (pointer_of_is laid (temps l) h.0 h.1)
      ∙ ap (λ z. is_same_pointer h.0 z) (pointer_of_is laid (temps r) k.0 k.1) in
      record {
        x = a.0;
        y = b.0;
        result = truth is;
        is_left = sym (address_at l h.0 h.1 a.0 a.1);
        is_right = sym (address_at r k.0 k.1 b.0 b.1);
        is_given = ap scalar_as (truth_number is);
        truth = subst (λ z. IsEqualityOf equal a.0 b.0 (truth z))
            (ap (compares_as equal) (sym same) ∙ sym (compared_by equal (temps l) (temps r)))
            (equality equal (is_same_pointer h.0 k.0) h.0 k.0 a.0 b.0 a.1 b.1 refl);
      }

  usable_by : (q : Pointer) (v : Value) → usable (APointer q) ≡ Ok v → address_as q ≢ a_pointer scalars.invalid
  unfolding usable
  usable_by Pointers.Null v e h = cc
  usable_by Pointers.Invalid v e h = absurd (cc)
  usable_by (Pointers.To o k) v e h = cc

  -- a pointer that can be compared is not the invalid one
  pub usable_passes : (u : ℕ) (v : Value) (q : Pointer) → temps u ≡ APointer q → usable (temps u) ≡ Ok v
      → scalars_as temps u ≢ a_pointer scalars.invalid
  usable_passes u v q e h same =
      usable_by q v (ap usable (sym e) ∙ h) (sym (ap scalar_as e) ∙ same)
