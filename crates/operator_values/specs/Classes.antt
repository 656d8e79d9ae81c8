-- The classes of errors that an operator does not exclude, as tests.
use Rattle.std.specs.Prelude.{◌≡◌, ◌↔◌, ℕ, Bool, false, not, IsTrue}
use Rattle.filters.specs.strided_dom.Progression.{Progression}
use Rattle.filters.specs.strided_dom.Combinations.{IsProduct}
use Rattle.tm_cint.specs.declared.Class.{Class}
use Rattle.tm_cint.specs.declared.int_types.IntType.{IntType}
use Rattle.tm_cint.specs.declared.operators.BinOp.{BinOp}
use Rattle.transfer_int.specs.Values.{MayFail}
use Rattle.filters.specs.pointer_dom.Pointer.{Pointer}
use Rattle.filters.specs.pointer_dom.PointerSets.{Pointers, IsPointer}
use Rattle.filters.specs.pointer_dom.Advances.{IsSafeAdvance, AreSubscripts, directed}
use Rattle.filters.specs.pointer_dom.Selections.{Reaches}
use Rattle.operator_values.specs.laws.ClassTests.{fail_test, subscripts_test, safe_test, all_reach_test}
use Rattle.operator_values.specs.laws.PointerResults.{truth_of, truth_is, refuted_is, true_test, move_listing}

-- `a op b` in this type does not exclude the class
unfoldable pub may_fail : BinOp → IntType → Progression → Progression → Class → Bool
may_fail op t a b class = truth_of (fail_test t a b op class)

pub may_fail_is : (op : BinOp) (t : IntType) (a b : Progression) (class : Class)
    → IsTrue (may_fail op t a b class) ↔ MayFail op t a b class
unfolding may_fail
may_fail_is op t a b class = truth_is (fail_test t a b op class)

-- some of the numbers is no subscript of an array of n elements
unfoldable pub index_fails : ℕ → Progression → Bool
index_fails n s = not (truth_of (subscripts_test n s))

pub index_fails_is : (n : ℕ) (s : Progression) → (index_fails n s ≡ false) ↔ AreSubscripts n s
unfolding index_fails
index_fails_is n s = refuted_is (subscripts_test n s)

-- some pointer is null or invalid, or leaves its object when it is moved
unfoldable pub move_fails : Bool → ℕ → Progression → Pointers → Bool
move_fails forward cells counts p = not (truth_of (safe_test (IsProduct counts (directed forward cells))
    (move_listing counts (directed forward cells)) p))

pub move_fails_is : (forward : Bool) (cells : ℕ) (counts : Progression) (p : Pointers)
    → (move_fails forward cells counts p ≡ false) ↔ IsSafeAdvance (IsProduct counts (directed forward cells)) p
unfolding move_fails
move_fails_is forward cells counts p = refuted_is (safe_test (IsProduct counts (directed forward cells))
    (move_listing counts (directed forward cells)) p)

-- some pointer is null or invalid, or leads to an object that is not alive, or to an offset at which the cells of the
-- pointed type do not stand
module _ (alive : ℕ → Bool) (stands : ℕ → ℕ → Bool) where
  abbrev pub CanBeRead : Pointer → Type 0
  CanBeRead x = Reaches (λ object. IsTrue (alive object)) (λ object offset. IsTrue (stands object offset)) x

  unfoldable pub dereference_fails : Pointers → Bool
  dereference_fails p = not (truth_of (all_reach_test (λ object. IsTrue (alive object))
      (λ object offset. IsTrue (stands object offset)) (λ object. true_test (alive object))
      (λ object offset. true_test (stands object offset)) p))

  pub dereference_fails_is : (p : Pointers) → (dereference_fails p ≡ false)
      ↔ ((x : Pointer) → IsPointer p x → CanBeRead x)
  unfolding dereference_fails
  dereference_fails_is p = refuted_is (all_reach_test (λ object. IsTrue (alive object))
      (λ object offset. IsTrue (stands object offset)) (λ object. true_test (alive object))
      (λ object offset. true_test (stands object offset)) p)
