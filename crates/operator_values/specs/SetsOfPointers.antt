-- The operators on sets of pointers as functions. Each gives the one set that its relation describes.
use Rattle.std.specs.Prelude.{◌≡◌, ℕ, Bool, true, false, IsTrue, pos}
use Rattle.filters.specs.strided_dom.Progression.{Progression, IsExactly}
use Rattle.filters.specs.strided_dom.Combinations.{IsProduct}
use Rattle.filters.specs.pointer_dom.Pointer.{Pointer}
use Rattle.filters.specs.pointer_dom.PointerSets.{Pointers, IsPointers, IsMeet}
use Rattle.filters.specs.pointer_dom.Advances.{IsAdvance, IsElementStep, directed}
use Rattle.filters.specs.pointer_dom.Selections.{IsHullOfPointers, IsTarget}
use Rattle.filters.specs.pointer_dom.Equality.{IsEqualityValue}
use Rattle.filters.specs.PointerPartners.{MayBeUnequal, ArePointersAssumed}
use Rattle.operator_values.specs.laws.PointerResults.{met, met_is, met_pointers, advanced, advanced_is}
use Rattle.operator_values.specs.laws.PointerResults.{advanced_pointers, part_listing, move_listing, element_listing}
use Rattle.operator_values.specs.laws.PointerResults.{reached, reached_is, reached_pointers, equality_set, unequal}
use Rattle.operator_values.specs.laws.PointerResults.{unequal_is, unequal_pointers, true_test}

-- the pointers that both sets have
unfoldable pub common_pointers : Pointers → Pointers → Pointers
common_pointers p q = met p q

pub common_pointers_are : (p q : Pointers) → IsMeet p q (common_pointers p q)
unfolding common_pointers
common_pointers_are p q = met_is p q

pub common_pointers_fit : (p q : Pointers) → IsPointers p → IsPointers q → IsPointers (common_pointers p q)
unfolding common_pointers
common_pointers_fit p q p-is q-is = met_pointers p q p-is q-is

-- each pointer advanced to a part this many cells on, in its object
unfoldable pub offset_by : ℕ → Pointers → Pointers
offset_by cells p = advanced (λ step. step ≡ pos cells) (part_listing cells) p

pub offset_by_is : (cells : ℕ) (p : Pointers) → IsAdvance (λ step. step ≡ pos cells) p (offset_by cells p)
unfolding offset_by
offset_by_is cells p = advanced_is (λ step. step ≡ pos cells) (part_listing cells) p

pub offset_by_fits : (cells : ℕ) (p : Pointers) → IsPointers (offset_by cells p)
unfolding offset_by
offset_by_fits cells p = advanced_pointers (λ step. step ≡ pos cells) (part_listing cells) p

-- each pointer to an array of n elements of this many cells advanced to the elements with these subscripts
unfoldable pub indexed : ℕ → ℕ → Progression → Pointers → Pointers
indexed n cells s p = advanced (IsElementStep n cells s) (element_listing n cells s) p

pub indexed_is : (n cells : ℕ) (s : Progression) (p : Pointers)
    → IsAdvance (IsElementStep n cells s) p (indexed n cells s p)
unfolding indexed
indexed_is n cells s p = advanced_is (IsElementStep n cells s) (element_listing n cells s) p

pub indexed_fits : (n cells : ℕ) (s : Progression) (p : Pointers) → IsPointers (indexed n cells s p)
unfolding indexed
indexed_fits n cells s p = advanced_pointers (IsElementStep n cells s) (element_listing n cells s) p

-- each pointer moved forward by these numbers of elements of this many cells, or back
unfoldable pub moved : Bool → ℕ → Progression → Pointers → Pointers
moved forward cells counts p =
    advanced (IsProduct counts (directed forward cells)) (move_listing counts (directed forward cells)) p

pub moved_is : (forward : Bool) (cells : ℕ) (counts : Progression) (p : Pointers)
    → IsAdvance (IsProduct counts (directed forward cells)) p (moved forward cells counts p)
unfolding moved
moved_is forward cells counts p =
    advanced_is (IsProduct counts (directed forward cells)) (move_listing counts (directed forward cells)) p

pub moved_fits : (forward : Bool) (cells : ℕ) (counts : Progression) (p : Pointers)
    → IsPointers (moved forward cells counts p)
unfolding moved
moved_fits forward cells counts p =
    advanced_pointers (IsProduct counts (directed forward cells)) (move_listing counts (directed forward cells)) p

-- what a dereference reaches, by tests of which objects are alive and at which offsets the cells of its type stand
module _ (alive : ℕ → Bool) (stands : ℕ → ℕ → Bool) where
  abbrev pub IsReachable : Pointers → Pointer → Type 0
  IsReachable p x = IsTarget (λ object. IsTrue (alive object)) (λ object offset. IsTrue (stands object offset)) p x

  unfoldable pub dereferenced : Pointers → Pointers
  dereferenced p = reached (λ object. IsTrue (alive object)) (λ object offset. IsTrue (stands object offset))
      (λ object. true_test (alive object)) (λ object offset. true_test (stands object offset)) p

  pub dereferenced_is : (p : Pointers) → IsHullOfPointers (IsReachable p) p (dereferenced p)
  unfolding dereferenced
  dereferenced_is p = reached_is (λ object. IsTrue (alive object)) (λ object offset. IsTrue (stands object offset))
      (λ object. true_test (alive object)) (λ object offset. true_test (stands object offset)) p

  pub dereferenced_fits : (p : Pointers) → IsPointers p → IsPointers (dereferenced p)
  unfolding dereferenced
  dereferenced_fits p p-is = reached_pointers (λ object. IsTrue (alive object))
      (λ object offset. IsTrue (stands object offset)) (λ object. true_test (alive object))
      (λ object offset. true_test (stands object offset)) p p-is

-- `p == q`, or `p != q` where `equal` is false (C99 6.5.9)
unfoldable pub equality : Bool → Pointers → Pointers → Progression
equality equal p q = (equality_set equal p q).0

pub equality_is : (equal : Bool) (p q : Pointers) → IsExactly (IsEqualityValue equal p q) (equality equal p q)
unfolding equality
equality_is equal p q = (equality_set equal p q).1

-- the pointers of p that may be unequal to one of q
unfoldable pub unequal_to : Pointers → Pointers → Pointers
unequal_to q p = unequal p q

pub unequal_to_is : (q p : Pointers) → IsHullOfPointers (MayBeUnequal p q) p (unequal_to q p)
unfolding unequal_to
unequal_to_is q p = unequal_is p q

pub unequal_to_fits : (q p : Pointers) → IsPointers p → IsPointers (unequal_to q p)
unfolding unequal_to
unequal_to_fits q p p-is = unequal_pointers p q p-is

-- what is left of p where `x == y` is known of a pointer x of p and a pointer y of q, or `x != y` where `equal` is
-- false; and of q
abbrev pub left_pointers : Bool → Pointers → Pointers → Pointers
left_pointers true p q = common_pointers p q
left_pointers false p q = unequal_to q p

abbrev pub right_pointers : Bool → Pointers → Pointers → Pointers
right_pointers true p q = common_pointers p q
right_pointers false p q = unequal_to p q

pub pointers_are_assumed : (equal : Bool) (p q : Pointers)
    → ArePointersAssumed equal p q (left_pointers equal p q) (right_pointers equal p q)
pointers_are_assumed true p q = (common_pointers_are p q, common_pointers_are p q)
pointers_are_assumed false p q = (unequal_to_is q p, unequal_to_is p q)

pub left_pointers_fit : (equal : Bool) (p q : Pointers) → IsPointers p → IsPointers q
    → IsPointers (left_pointers equal p q)
left_pointers_fit true p q p-is q-is = common_pointers_fit p q p-is q-is
left_pointers_fit false p q p-is q-is = unequal_to_fits q p p-is

pub right_pointers_fit : (equal : Bool) (p q : Pointers) → IsPointers p → IsPointers q
    → IsPointers (right_pointers equal p q)
right_pointers_fit true p q p-is q-is = common_pointers_fit p q p-is q-is
right_pointers_fit false p q p-is q-is = unequal_to_fits p q q-is
