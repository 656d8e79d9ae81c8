-- What the code of a calculation gives is what the rows say.
use Rattle.std.specs.Prelude.{◌≡◌, ◌↔◌, ℕ, Bool, true, false, IsTrue, pos, refl}
use Rattle.std.proofs.Common.{sym, ap, subst, ◌∙◌}
use Rattle.std.proofs.lemmas.Bool.{false≢true}
use Rattle.strided_dom.specs.Progression.{Progression, single, IsExactly}
use Rattle.strided_dom.specs.Combinations.{IsProduct}
use Rattle.tm_cint.specs.declared.Class.{Class}
use Rattle.tm_cint.specs.declared.Class.TheVariants.{Overflow, Shift, Index, Pointer, Deref, Lock, Race}
use Rattle.tm_cint.specs.declared.Class.TheVariants.{Div as DivByZero}
use Rattle.tm_cint.specs.declared.int_types.IntType.{IntType}
use Rattle.tm_cint.specs.declared.operators.BinOp.{BinOp}
use Rattle.tm_cint.specs.declared.operators.BinOp.TheVariants.{Sub}
use Rattle.transfer_int.specs.Values.{IsValue, IsConverted, MayFail, ones_of}
use Rattle.transfer_int.specs.Outcomes.{notes}
use Rattle.transfer_int.specs.declared.outcomes.Classes.{Classes}
use Rattle.pointer_dom.specs.Pointer.{Pointer as APointer}
use Rattle.pointer_dom.specs.PointerSets.{Pointers, IsPointers, IsPointer}
use Rattle.pointer_dom.specs.Advances.{IsAdvance, IsElementStep, IsSafeAdvance, AreSubscripts, directed}
use Rattle.pointer_dom.specs.Selections.{IsHullOfPointers, Reaches}
use Rattle.pointer_dom.specs.Equality.{IsEqualityValue}
use Rattle.pointer_dom.specs.laws.OffsetLaws.{same_members, same_hull}
use Rattle.filters.specs.Partners.{Compares, HasPartner, IsAssumed}
use Rattle.transfer_rows.specs.operator_values.Integers as I
use Rattle.transfer_rows.specs.operator_values.SetsOfPointers as P
use Rattle.transfer_rows.specs.operator_values.Classes.{may_fail, may_fail_is, index_fails, index_fails_is, move_fails}
use Rattle.transfer_rows.specs.operator_values.Classes.{move_fails_is}
use Rattle.transfer_rows.specs.operator_values.Classes.{dereference_fails, dereference_fails_is}
use Rattle.transfer_rows.proofs.low.operator_values.OneAnswer.{one_advance, one_hull}
use Rattle.transfer_rows.specs.StateForms.{State, value_of, only_numbers, only_pointers}
use Rattle.transfer_rows.specs.Actions.{copied, negated, complemented, operated, converted, compared, part, element, moved, dereferenced}
use Rattle.transfer_rows.specs.Calculations.{calculated}
use Rattle.transfer_rows.specs.Reports.{CalculationMayFail}
use Rattle.calculations.specs.declared.values.Calculated.{Calculated}
use Rattle.calculations.specs.Given.{no_class, IsCalculated}

-- ---- classes

pub nothing_noted : (class : Class) → IsTrue (notes no_class class) → ⊥
nothing_noted Overflow h = false≢true h
nothing_noted DivByZero h = false≢true h
nothing_noted Shift h = false≢true h
nothing_noted Index h = false≢true h
nothing_noted Pointer h = false≢true h
nothing_noted Deref h = false≢true h
nothing_noted Lock h = false≢true h
nothing_noted Race h = false≢true h

-- no class is noted, where none may be
none_may : (classes : Classes) (class : Class) → classes ≡ no_class → IsTrue (notes classes class) ↔ ⊥
none_may classes class none = (λ h. nothing_noted class (subst (λ k. IsTrue (notes k class)) none h), λ h. absurd h)

pub index_noted : (b : Bool) (class : Class) → IsTrue (notes (record no_class { index = b }) class) ↔ ((class ≡ Index) × IsTrue b)
index_noted b Overflow = (λ h. absurd (false≢true h), λ h. cc)
index_noted b DivByZero = (λ h. absurd (false≢true h), λ h. cc)
index_noted b Shift = (λ h. absurd (false≢true h), λ h. cc)
index_noted b Index = (λ h. (refl, h), λ h. h.1)
index_noted b Pointer = (λ h. absurd (false≢true h), λ h. cc)
index_noted b Deref = (λ h. absurd (false≢true h), λ h. cc)
index_noted b Lock = (λ h. absurd (false≢true h), λ h. cc)
index_noted b Race = (λ h. absurd (false≢true h), λ h. cc)

pub pointer_noted : (b : Bool) (class : Class) → IsTrue (notes (record no_class { pointer = b }) class) ↔ ((class ≡ Pointer) × IsTrue b)
pointer_noted b Overflow = (λ h. absurd (false≢true h), λ h. cc)
pointer_noted b DivByZero = (λ h. absurd (false≢true h), λ h. cc)
pointer_noted b Shift = (λ h. absurd (false≢true h), λ h. cc)
pointer_noted b Index = (λ h. absurd (false≢true h), λ h. cc)
pointer_noted b Pointer = (λ h. (refl, h), λ h. h.1)
pointer_noted b Deref = (λ h. absurd (false≢true h), λ h. cc)
pointer_noted b Lock = (λ h. absurd (false≢true h), λ h. cc)
pointer_noted b Race = (λ h. absurd (false≢true h), λ h. cc)

pub deref_noted : (b : Bool) (class : Class) → IsTrue (notes (record no_class { deref = b }) class) ↔ ((class ≡ Deref) × IsTrue b)
deref_noted b Overflow = (λ h. absurd (false≢true h), λ h. cc)
deref_noted b DivByZero = (λ h. absurd (false≢true h), λ h. cc)
deref_noted b Shift = (λ h. absurd (false≢true h), λ h. cc)
deref_noted b Index = (λ h. absurd (false≢true h), λ h. cc)
deref_noted b Pointer = (λ h. absurd (false≢true h), λ h. cc)
deref_noted b Deref = (λ h. (refl, h), λ h. h.1)
deref_noted b Lock = (λ h. absurd (false≢true h), λ h. cc)
deref_noted b Race = (λ h. absurd (false≢true h), λ h. cc)

-- the same, of classes and a flag that are equal to these
pub noted_so : (classes classes' : Classes) (b b' : Bool) (class : Class) (A : Type 0) → classes ≡ classes' → b ≡ b' → IsTrue (notes classes' class) ↔ (A × IsTrue b) → IsTrue (notes classes class) ↔ (A × IsTrue b')
noted_so classes classes' b b' class A same flag h =
    subst (λ k. IsTrue (notes k class) ↔ (A × IsTrue b')) (sym same) (subst (λ f. IsTrue (notes classes' class) ↔ (A × IsTrue f)) flag h)

-- two flags that are false in the same cases are the same
pub same_fails : {A : Type 0} (a b : Bool) → (a ≡ false) ↔ A → (b ≡ false) ↔ A → a ≡ b
same_fails true true h k = refl
same_fails false false h k = refl
same_fails true false h k = absurd (false≢true (sym (h.1 (k.0 refl))))
same_fails false true h k = absurd (false≢true (sym (k.1 (h.0 refl))))

-- ---- numbers

module _ (s : State) (r : Calculated) where
  pub copied_given : (source : ℕ) → r.value ≡ value_of s source → r.classes ≡ no_class → IsCalculated (copied source) s r
  unfolding calculated CalculationMayFail
  copied_given source value none = record { value = value; classes = λ class. none_may r.classes class none }

  module _ (t : IntType) (source : ℕ) (v a : Progression) (value : r.value ≡ only_numbers v) (at : a ≡ (value_of s source).numbers) where
    pub negated_given : IsExactly (IsValue Sub t (single (pos 0)) a) v → ((class : Class) → IsTrue (notes r.classes class) ↔ MayFail Sub t (single (pos 0)) a class)
        → IsCalculated (negated t source) s r
    unfolding calculated CalculationMayFail
    negated_given is classes =
        record {
          value = value ∙ ap only_numbers (same_members (IsValue Sub t (single (pos 0)) a) v (I.negated t a) is (I.operated_is Sub t (single (pos 0)) a)) ∙ ap (λ x. only_numbers (I.negated t x)) at;
          classes = λ class. subst (λ x. IsTrue (notes r.classes class) ↔ IsTrue (may_fail Sub t (single (pos 0)) x class)) at
              (let k = classes class in let m = may_fail_is Sub t (single (pos 0)) a class in (λ h. m.1 (k.0 h), λ h. k.1 (m.0 h)));
        }

    pub complemented_given : IsExactly (IsValue Sub t (single (ones_of t)) a) v → r.classes ≡ no_class → IsCalculated (complemented t source) s r
    unfolding calculated CalculationMayFail
    complemented_given is none =
        record {
          value = value ∙ ap only_numbers (same_members (IsValue Sub t (single (ones_of t)) a) v (I.complemented t a) is (I.operated_is Sub t (single (ones_of t)) a)) ∙ ap (λ x. only_numbers (I.complemented t x)) at;
          classes = λ class. none_may r.classes class none;
        }

    pub converted_given : IsExactly (IsConverted t a) v → r.classes ≡ no_class → IsCalculated (converted t source) s r
    unfolding calculated CalculationMayFail
    converted_given is none =
        record {
          value = value ∙ ap only_numbers (same_members (IsConverted t a) v (I.converted t a) is (I.converted_is t a)) ∙ ap (λ x. only_numbers (I.converted t x)) at;
          classes = λ class. none_may r.classes class none;
        }

  pub operated_given : (op : BinOp) (t : IntType) (left right : ℕ) (v a b : Progression) → r.value ≡ only_numbers v
      → a ≡ (value_of s left).numbers → b ≡ (value_of s right).numbers → IsExactly (IsValue op t a b) v
      → ((class : Class) → IsTrue (notes r.classes class) ↔ MayFail op t a b class) → IsCalculated (operated op t left right) s r
  unfolding calculated CalculationMayFail
  operated_given op t left right v a b value at at' is classes =
      record {
        value = value ∙ ap only_numbers (same_members (IsValue op t a b) v (I.operated op t a b) is (I.operated_is op t a b)) ∙ ap (λ x. only_numbers (I.operated op t x b)) at ∙ ap (λ y. only_numbers (I.operated op t (value_of s left).numbers y)) at';
        classes = λ class. subst (λ x. IsTrue (notes r.classes class) ↔ IsTrue (may_fail op t x (value_of s right).numbers class)) at
            (subst (λ y. IsTrue (notes r.classes class) ↔ IsTrue (may_fail op t a y class)) at'
            (let k = classes class in let m = may_fail_is op t a b class in (λ h. m.1 (k.0 h), λ h. k.1 (m.0 h))));
      }

  pub compared_given : (equal : Bool) (left right : ℕ) (v : Progression) (p q : Pointers) → r.value ≡ only_numbers v
      → p ≡ (value_of s left).pointers → q ≡ (value_of s right).pointers → IsExactly (IsEqualityValue equal p q) v → r.classes ≡ no_class
      → IsCalculated (compared equal left right) s r
  unfolding calculated CalculationMayFail
  compared_given equal left right v p q value at at' is none =
      record {
        value = value ∙ ap only_numbers (same_members (IsEqualityValue equal p q) v (P.equality equal p q) is (P.equality_is equal p q)) ∙ ap (λ x. only_numbers (P.equality equal x q)) at ∙ ap (λ y. only_numbers (P.equality equal (value_of s left).pointers y)) at';
        classes = λ class. none_may r.classes class none;
      }

  -- ---- pointers

  module _ (source : ℕ) (p q : Pointers) (value : r.value ≡ only_pointers q) (at : p ≡ (value_of s source).pointers) (p-is : IsPointers p) (q-is : IsPointers q) where
    pub part_given : (cells : ℕ) → IsAdvance (λ step. step ≡ pos cells) p q → r.classes ≡ no_class → IsCalculated (part cells source) s r
    unfolding calculated CalculationMayFail
    part_given cells is none =
        record {
          value = value ∙ ap only_pointers (one_advance (λ step. step ≡ pos cells) p q (P.offset_by cells p) p-is q-is (P.offset_by_fits cells p) is (P.offset_by_is cells p)) ∙ ap (λ x. only_pointers (P.offset_by cells x)) at;
          classes = λ class. none_may r.classes class none;
        }

    pub element_given : (count cells index : ℕ) (b : Bool) (i : Progression) → i ≡ (value_of s index).numbers → IsAdvance (IsElementStep count cells i) p q
        → (b ≡ false) ↔ AreSubscripts count i → r.classes ≡ record no_class { index = b } → IsCalculated (element count cells source index) s r
    unfolding calculated CalculationMayFail
    element_given count cells index b i at' is fails classes =
        let flag = same_fails b (index_fails count i) fails (index_fails_is count i) ∙ ap (index_fails count) at' in
        record {
          value = value ∙ ap only_pointers (one_advance (IsElementStep count cells i) p q (P.indexed count cells i p) p-is q-is (P.indexed_fits count cells i p) is (P.indexed_is count cells i p))
              ∙ ap (λ x. only_pointers (P.indexed count cells x p)) at' ∙ ap (λ x. only_pointers (P.indexed count cells (value_of s index).numbers x)) at;
          classes = λ class. noted_so r.classes (record no_class { index = b }) b (index_fails count (value_of s index).numbers) class (class ≡ Index) classes flag (index_noted b class);
        }

    pub moved_given : (forward : Bool) (cells count : ℕ) (b : Bool) (n : Progression) → n ≡ (value_of s count).numbers
        → IsAdvance (IsProduct n (directed forward cells)) p q → (b ≡ false) ↔ IsSafeAdvance (IsProduct n (directed forward cells)) p
        → r.classes ≡ record no_class { pointer = b } → IsCalculated (moved forward cells source count) s r
    unfolding calculated CalculationMayFail
    moved_given forward cells count b n at' is fails classes =
        let flag = same_fails b (move_fails forward cells n p) fails (move_fails_is forward cells n p) ∙ ap (λ x. move_fails forward cells x p) at' ∙ ap (move_fails forward cells (value_of s count).numbers) at in
        record {
          value = value ∙ ap only_pointers (one_advance (IsProduct n (directed forward cells)) p q (P.moved forward cells n p) p-is q-is (P.moved_fits forward cells n p) is (P.moved_is forward cells n p))
              ∙ ap (λ x. only_pointers (P.moved forward cells x p)) at' ∙ ap (λ x. only_pointers (P.moved forward cells (value_of s count).numbers x)) at;
          classes = λ class. noted_so r.classes (record no_class { pointer = b }) b (move_fails forward cells (value_of s count).numbers (value_of s source).pointers) class (class ≡ Pointer) classes flag (pointer_noted b class);
        }

    pub dereferenced_given : (alive : ℕ → Bool) (stands : ℕ → ℕ → Bool) (b : Bool) → IsHullOfPointers (P.IsReachable alive stands p) p q
        → (b ≡ false) ↔ ((x : APointer) → IsPointer p x → Reaches (λ object. IsTrue (alive object)) (λ object offset. IsTrue (stands object offset)) x)
        → r.classes ≡ record no_class { deref = b } → IsCalculated (dereferenced alive stands source) s r
    unfolding calculated CalculationMayFail
    dereferenced_given alive stands b is fails classes =
        let flag = same_fails b (dereference_fails alive stands p) fails (dereference_fails_is alive stands p) ∙ ap (dereference_fails alive stands) at in
        record {
          value = value ∙ ap only_pointers (one_hull (P.IsReachable alive stands p) p q (P.dereferenced alive stands p) p-is q-is (P.dereferenced_fits alive stands p p-is) is (P.dereferenced_is alive stands p))
              ∙ ap (λ x. only_pointers (P.dereferenced alive stands x)) at;
          classes = λ class. noted_so r.classes (record no_class { deref = b }) b (dereference_fails alive stands (value_of s source).pointers) class (class ≡ Deref) classes flag (deref_noted b class);
        }

-- ---- comparisons

pub numbers_left : (op : BinOp) (a b left right : Progression) → IsAssumed op a b left right → left ≡ I.left_assumed op a b
numbers_left op a b left right h = same_hull (HasPartner (Compares op) a b) left (I.left_assumed op a b) h.of_left (I.assumed_is op a b).of_left

pub numbers_right : (op : BinOp) (a b left right : Progression) → IsAssumed op a b left right → right ≡ I.right_assumed op a b
numbers_right op a b left right h = same_hull (HasPartner (λ y x. Compares op x y) b a) right (I.right_assumed op a b) h.of_right (I.assumed_is op a b).of_right
