-- Alarms that are sorted and of which repeats are dropped.
use Rattle.std.proofs.Common.{◌≡◌, ◌↔◌, ◌<◌, ◌==◌, refl, sym, subst, Bool, true, false, ◌&&◌, List, [], ◌∷◌}
use Rattle.std.proofs.Common.{arith, inl, inr}
use Rattle.std.specs.Prelude.{Contains}
use Rattle.std.specs.List.{dedup}
use Rattle.std.specs.List.Sorted.{IsStrictlySortedBy, IsSorted, IsPermutation}
use Rattle.std.specs.Ordering.{nat_cmp, ordering_then, MatchOrdering}
use Rattle.std.specs.List.Retain.{IsFiltered, DiffersFromLast}
use Rattle.std.specs.declared.cmp.Ordering.{Ordering}
use Rattle.std.specs.declared.cmp.Ordering.TheVariants.{Less, Equal, Greater}
use Rattle.std.proofs.lemmas.List.Filters.{dedup_is}
use Rattle.std.proofs.lemmas.Bool.{eqb-true}
use Rattle.std.proofs.lemmas.Cmp.{ranked}
use Rattle.std.proofs.lemmas.List.Kept.{IsStrictlySortedBy-dedup, Contains-dedup, Contains-from_dedup}
use Rattle.std.proofs.lemmas.List.Sorted.{Contains-permutation, IsPermutation-sym}
use Rattle.std.proofs.lemmas.Map.Keys.{Less-from_sorted, sorted_tail}
use Rattle.tm_cint.specs.declared.Class.{Class}
use Rattle.tm_cint.specs.declared.Class.TheVariants.{Overflow, Div, Shift, Index, Pointer, Deref, Lock, Race}
use Rattle.tm_cint.specs.contracts.ClassOrd.TheImpl as class_ord
use Rattle.tm_cint.specs.contracts.ClassPartialEq.TheImpl as class_eq
use Rattle.tm_terms.specs.declared.alarms.Alarm.{Alarm}
use Rattle.tm_terms.specs.contracts.alarms.AlarmOrd.TheImpl.{cmp-value}
use Rattle.tm_terms.specs.contracts.alarms.AlarmOrd.TheImpl.Laws.{total-law, matches_eq-law}
use Rattle.tm_terms.specs.contracts.alarms.AlarmPartialEq.TheImpl.{eq-value}
use Rattle.tm_terms.specs.contracts.alarms.AlarmEq.TheImpl.Laws.{laws-law}
use Rattle.tm_terms.specs.Alarms.{class_number, AlarmBefore, IsStrictlySorted}

class_less : (a b : Class) → class_ord.cmp-value.it a b ≡ Less → class_number a < class_number b
class_less Overflow Overflow e = absurd cc
class_less Overflow Div e = omega arith
class_less Overflow Shift e = omega arith
class_less Overflow Index e = omega arith
class_less Overflow Pointer e = omega arith
class_less Overflow Deref e = omega arith
class_less Overflow Lock e = omega arith
class_less Overflow Race e = omega arith
class_less Div Overflow e = absurd cc
class_less Div Div e = absurd cc
class_less Div Shift e = omega arith
class_less Div Index e = omega arith
class_less Div Pointer e = omega arith
class_less Div Deref e = omega arith
class_less Div Lock e = omega arith
class_less Div Race e = omega arith
class_less Shift Overflow e = absurd cc
class_less Shift Div e = absurd cc
class_less Shift Shift e = absurd cc
class_less Shift Index e = omega arith
class_less Shift Pointer e = omega arith
class_less Shift Deref e = omega arith
class_less Shift Lock e = omega arith
class_less Shift Race e = omega arith
class_less Index Overflow e = absurd cc
class_less Index Div e = absurd cc
class_less Index Shift e = absurd cc
class_less Index Index e = absurd cc
class_less Index Pointer e = omega arith
class_less Index Deref e = omega arith
class_less Index Lock e = omega arith
class_less Index Race e = omega arith
class_less Pointer Overflow e = absurd cc
class_less Pointer Div e = absurd cc
class_less Pointer Shift e = absurd cc
class_less Pointer Index e = absurd cc
class_less Pointer Pointer e = absurd cc
class_less Pointer Deref e = omega arith
class_less Pointer Lock e = omega arith
class_less Pointer Race e = omega arith
class_less Deref Overflow e = absurd cc
class_less Deref Div e = absurd cc
class_less Deref Shift e = absurd cc
class_less Deref Index e = absurd cc
class_less Deref Pointer e = absurd cc
class_less Deref Deref e = absurd cc
class_less Deref Lock e = omega arith
class_less Deref Race e = omega arith
class_less Lock Overflow e = absurd cc
class_less Lock Div e = absurd cc
class_less Lock Shift e = absurd cc
class_less Lock Index e = absurd cc
class_less Lock Pointer e = absurd cc
class_less Lock Deref e = absurd cc
class_less Lock Lock e = absurd cc
class_less Lock Race e = omega arith
class_less Race Overflow e = absurd cc
class_less Race Div e = absurd cc
class_less Race Shift e = absurd cc
class_less Race Index e = absurd cc
class_less Race Pointer e = absurd cc
class_less Race Deref e = absurd cc
class_less Race Lock e = absurd cc
class_less Race Race e = absurd cc

class_same : (a b : Class) → class_eq.eq-value.it a b ≡ true → a ≡ b
class_same Overflow Overflow e = refl
class_same Overflow Div e = absurd cc
class_same Overflow Shift e = absurd cc
class_same Overflow Index e = absurd cc
class_same Overflow Pointer e = absurd cc
class_same Overflow Deref e = absurd cc
class_same Overflow Lock e = absurd cc
class_same Overflow Race e = absurd cc
class_same Div Overflow e = absurd cc
class_same Div Div e = refl
class_same Div Shift e = absurd cc
class_same Div Index e = absurd cc
class_same Div Pointer e = absurd cc
class_same Div Deref e = absurd cc
class_same Div Lock e = absurd cc
class_same Div Race e = absurd cc
class_same Shift Overflow e = absurd cc
class_same Shift Div e = absurd cc
class_same Shift Shift e = refl
class_same Shift Index e = absurd cc
class_same Shift Pointer e = absurd cc
class_same Shift Deref e = absurd cc
class_same Shift Lock e = absurd cc
class_same Shift Race e = absurd cc
class_same Index Overflow e = absurd cc
class_same Index Div e = absurd cc
class_same Index Shift e = absurd cc
class_same Index Index e = refl
class_same Index Pointer e = absurd cc
class_same Index Deref e = absurd cc
class_same Index Lock e = absurd cc
class_same Index Race e = absurd cc
class_same Pointer Overflow e = absurd cc
class_same Pointer Div e = absurd cc
class_same Pointer Shift e = absurd cc
class_same Pointer Index e = absurd cc
class_same Pointer Pointer e = refl
class_same Pointer Deref e = absurd cc
class_same Pointer Lock e = absurd cc
class_same Pointer Race e = absurd cc
class_same Deref Overflow e = absurd cc
class_same Deref Div e = absurd cc
class_same Deref Shift e = absurd cc
class_same Deref Index e = absurd cc
class_same Deref Pointer e = absurd cc
class_same Deref Deref e = refl
class_same Deref Lock e = absurd cc
class_same Deref Race e = absurd cc
class_same Lock Overflow e = absurd cc
class_same Lock Div e = absurd cc
class_same Lock Shift e = absurd cc
class_same Lock Index e = absurd cc
class_same Lock Pointer e = absurd cc
class_same Lock Deref e = absurd cc
class_same Lock Lock e = refl
class_same Lock Race e = absurd cc
class_same Race Overflow e = absurd cc
class_same Race Div e = absurd cc
class_same Race Shift e = absurd cc
class_same Race Index e = absurd cc
class_same Race Pointer e = absurd cc
class_same Race Deref e = absurd cc
class_same Race Lock e = absurd cc
class_same Race Race e = refl

before_by : (a b : Alarm) (r s t : Ordering)
    → MatchOrdering r (a.place.line < b.place.line) (a.place.line ≡ b.place.line) (b.place.line < a.place.line)
    → MatchOrdering s (a.place.col < b.place.col) (a.place.col ≡ b.place.col) (b.place.col < a.place.col)
    → (t ≡ Less → class_number a.class < class_number b.class) → ordering_then (ordering_then r s) t ≡ Less
    → AlarmBefore a b
before_by a b Less s t m n f e = inl m
before_by a b Equal Less t m n f e = inr (m, inl n)
before_by a b Equal Equal t m n f e = inr (m, inr (n, f e))
before_by a b Equal Greater t m n f e = absurd cc
before_by a b Greater s t m n f e = absurd cc

pub is_before : (a b : Alarm) → cmp-value.it a b ≡ Less → AlarmBefore a b
is_before a b e =
    before_by a b (nat_cmp a.place.line b.place.line) (nat_cmp a.place.col b.place.col)
    (class_ord.cmp-value.it a.class b.class)
    (ranked a.place.line b.place.line (nat_cmp a.place.line b.place.line) refl)
    (ranked a.place.col b.place.col (nat_cmp a.place.col b.place.col) refl) (class_less a.class b.class) e

both_of : (x y : Bool) → (x && y) ≡ true → (x ≡ true) × (y ≡ true)
both_of true y e = (refl, e)
both_of false y e = absurd cc

pub is_same : (a b : Alarm) → eq-value.it a b ≡ true → a ≡ b
is_same a b e =
    let places = both_of ((a.place.line == b.place.line) && (a.place.col == b.place.col))
    (class_eq.eq-value.it a.class b.class) e in
    let parts = both_of (a.place.line == b.place.line) (a.place.col == b.place.col) places.0 in
    let line = eqb-true a.place.line b.place.line parts.0 in
    let col = eqb-true a.place.col b.place.col parts.1 in
    let class = class_same a.class b.class places.1 in
    λ i. record { place = record { line = line i; col = col i }; class = class i }

strictly : (R : Alarm → Alarm → Ordering) → ((a b : Alarm) → R a b ≡ Less → AlarmBefore a b) → (as' : List Alarm)
    → IsStrictlySortedBy R as' → IsStrictlySorted as'
strictly R less [] s = tt
strictly R less (a ∷ []) s = tt
strictly R less (a ∷ b ∷ rest) s = (
  less a b (Less-from_sorted R (a ∷ b ∷ rest) 0 1 a s (omega arith) (omega arith)),
  strictly R less (b ∷ rest) (sorted_tail R a (b ∷ rest) s),
)

module _ (given ordered kept : List Alarm) (perm : IsPermutation given ordered) (sorted : IsSorted cmp-value.it ordered)
    (filtered : IsFiltered (DiffersFromLast eq-value.it) [] ordered kept) where
  are : kept ≡ dedup eq-value.it ordered
  are = dedup_is eq-value.it ordered kept filtered

  pub strictly_sorted : IsStrictlySorted kept
  strictly_sorted = strictly cmp-value.it is_before kept
      (subst (IsStrictlySortedBy cmp-value.it) (sym are)
      (IsStrictlySortedBy-dedup total-law matches_eq-law ordered sorted))

  pub same_alarms : (a : Alarm) → Contains kept a ↔ Contains given a
  same_alarms a = (
    λ h. Contains-permutation ordered given a (IsPermutation-sym given ordered perm)
        (Contains-from_dedup eq-value.it ordered a (subst (λ z. Contains z a) are h)),
    λ h. subst (λ z. Contains z a) (sym are)
        (Contains-dedup laws-law is_same ordered a (Contains-permutation given ordered a perm h)),
  )
