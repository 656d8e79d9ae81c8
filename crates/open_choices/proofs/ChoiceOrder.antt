-- Choices that are sorted and of which repeats are dropped.
use Rattle.std.proofs.Common.{◌≡◌, ◌↔◌, ℕ, ◌<◌, ◌==◌, refl, ap, sym, subst, ◌∙◌, Bool, true, false, ◌&&◌, List, [], ◌∷◌}
use Rattle.std.proofs.Common.{arith, ◌⊎◌, inl, inr}
use Rattle.std.specs.Prelude.{Contains}
use Rattle.std.specs.List.{dedup}
use Rattle.std.specs.List.Sorted.{IsStrictlySortedBy, IsSorted, IsPermutation}
use Rattle.std.specs.Ordering.{nat_cmp, ordering_then, MatchOrdering}
use Rattle.std.specs.List.Retain.{IsFiltered, DiffersFromLast}
use Rattle.std.specs.declared.cmp.Ordering.{Ordering}
use Rattle.std.specs.declared.cmp.Ordering.TheVariants.{Less, Equal, Greater}
use Rattle.std.proofs.lemmas.List.Filters.{dedup_is}
use Rattle.std.proofs.lemmas.Bool.{eqb-true}
use Rattle.std.proofs.lemmas.Cmp.{ranked}
use Rattle.std.proofs.lemmas.List.Kept.{IsStrictlySortedBy-dedup, Contains-dedup, Contains-from_dedup}
use Rattle.std.proofs.lemmas.List.Sorted.{Contains-permutation, IsPermutation-sym}
use Rattle.std.proofs.lemmas.Map.Keys.{Less-from_sorted, sorted_tail}
use Rattle.text_choices.specs.declared.kinds.Kind.{Kind}
use Rattle.text_choices.specs.declared.kinds.Kind.TheVariants as Kinds
use Rattle.text_choices.specs.declared.kinds.Choice.{Choice}
use Rattle.text_choices.specs.contracts.kinds.KindOrd.TheImpl as kind_ord
use Rattle.text_choices.specs.contracts.kinds.KindPartialEq.TheImpl as kind_eq
use Rattle.text_choices.specs.contracts.kinds.ChoiceOrd.TheImpl.{cmp-value}
use Rattle.text_choices.specs.contracts.kinds.ChoiceOrd.TheImpl.Laws.{total-law, matches_eq-law}
use Rattle.text_choices.specs.contracts.kinds.ChoicePartialEq.TheImpl.{eq-value}
use Rattle.text_choices.specs.contracts.kinds.ChoiceEq.TheImpl.Laws.{laws-law}
use Rattle.open_choices.specs.Choices.{kind_number, IsBefore, AreRising}

kind_less : (a b : Kind) → kind_ord.cmp-value.it a b ≡ Less → kind_number a < kind_number b
kind_less Kinds.Const Kinds.Const e = absurd cc
kind_less Kinds.Const Kinds.Enum e = omega arith
kind_less Kinds.Const Kinds.Implementation e = omega arith
kind_less Kinds.Const Kinds.Layout e = omega arith
kind_less Kinds.Const Kinds.Lifetime e = omega arith
kind_less Kinds.Const Kinds.Member e = omega arith
kind_less Kinds.Const Kinds.Order e = omega arith
kind_less Kinds.Const Kinds.Pragma e = omega arith
kind_less Kinds.Const Kinds.Reserved e = omega arith
kind_less Kinds.Const Kinds.Restrict e = omega arith
kind_less Kinds.Const Kinds.Unset e = omega arith
kind_less Kinds.Enum Kinds.Const e = absurd cc
kind_less Kinds.Enum Kinds.Enum e = absurd cc
kind_less Kinds.Enum Kinds.Implementation e = omega arith
kind_less Kinds.Enum Kinds.Layout e = omega arith
kind_less Kinds.Enum Kinds.Lifetime e = omega arith
kind_less Kinds.Enum Kinds.Member e = omega arith
kind_less Kinds.Enum Kinds.Order e = omega arith
kind_less Kinds.Enum Kinds.Pragma e = omega arith
kind_less Kinds.Enum Kinds.Reserved e = omega arith
kind_less Kinds.Enum Kinds.Restrict e = omega arith
kind_less Kinds.Enum Kinds.Unset e = omega arith
kind_less Kinds.Implementation Kinds.Const e = absurd cc
kind_less Kinds.Implementation Kinds.Enum e = absurd cc
kind_less Kinds.Implementation Kinds.Implementation e = absurd cc
kind_less Kinds.Implementation Kinds.Layout e = omega arith
kind_less Kinds.Implementation Kinds.Lifetime e = omega arith
kind_less Kinds.Implementation Kinds.Member e = omega arith
kind_less Kinds.Implementation Kinds.Order e = omega arith
kind_less Kinds.Implementation Kinds.Pragma e = omega arith
kind_less Kinds.Implementation Kinds.Reserved e = omega arith
kind_less Kinds.Implementation Kinds.Restrict e = omega arith
kind_less Kinds.Implementation Kinds.Unset e = omega arith
kind_less Kinds.Layout Kinds.Const e = absurd cc
kind_less Kinds.Layout Kinds.Enum e = absurd cc
kind_less Kinds.Layout Kinds.Implementation e = absurd cc
kind_less Kinds.Layout Kinds.Layout e = absurd cc
kind_less Kinds.Layout Kinds.Lifetime e = omega arith
kind_less Kinds.Layout Kinds.Member e = omega arith
kind_less Kinds.Layout Kinds.Order e = omega arith
kind_less Kinds.Layout Kinds.Pragma e = omega arith
kind_less Kinds.Layout Kinds.Reserved e = omega arith
kind_less Kinds.Layout Kinds.Restrict e = omega arith
kind_less Kinds.Layout Kinds.Unset e = omega arith
kind_less Kinds.Lifetime Kinds.Const e = absurd cc
kind_less Kinds.Lifetime Kinds.Enum e = absurd cc
kind_less Kinds.Lifetime Kinds.Implementation e = absurd cc
kind_less Kinds.Lifetime Kinds.Layout e = absurd cc
kind_less Kinds.Lifetime Kinds.Lifetime e = absurd cc
kind_less Kinds.Lifetime Kinds.Member e = omega arith
kind_less Kinds.Lifetime Kinds.Order e = omega arith
kind_less Kinds.Lifetime Kinds.Pragma e = omega arith
kind_less Kinds.Lifetime Kinds.Reserved e = omega arith
kind_less Kinds.Lifetime Kinds.Restrict e = omega arith
kind_less Kinds.Lifetime Kinds.Unset e = omega arith
kind_less Kinds.Member Kinds.Const e = absurd cc
kind_less Kinds.Member Kinds.Enum e = absurd cc
kind_less Kinds.Member Kinds.Implementation e = absurd cc
kind_less Kinds.Member Kinds.Layout e = absurd cc
kind_less Kinds.Member Kinds.Lifetime e = absurd cc
kind_less Kinds.Member Kinds.Member e = absurd cc
kind_less Kinds.Member Kinds.Order e = omega arith
kind_less Kinds.Member Kinds.Pragma e = omega arith
kind_less Kinds.Member Kinds.Reserved e = omega arith
kind_less Kinds.Member Kinds.Restrict e = omega arith
kind_less Kinds.Member Kinds.Unset e = omega arith
kind_less Kinds.Order Kinds.Const e = absurd cc
kind_less Kinds.Order Kinds.Enum e = absurd cc
kind_less Kinds.Order Kinds.Implementation e = absurd cc
kind_less Kinds.Order Kinds.Layout e = absurd cc
kind_less Kinds.Order Kinds.Lifetime e = absurd cc
kind_less Kinds.Order Kinds.Member e = absurd cc
kind_less Kinds.Order Kinds.Order e = absurd cc
kind_less Kinds.Order Kinds.Pragma e = omega arith
kind_less Kinds.Order Kinds.Reserved e = omega arith
kind_less Kinds.Order Kinds.Restrict e = omega arith
kind_less Kinds.Order Kinds.Unset e = omega arith
kind_less Kinds.Pragma Kinds.Const e = absurd cc
kind_less Kinds.Pragma Kinds.Enum e = absurd cc
kind_less Kinds.Pragma Kinds.Implementation e = absurd cc
kind_less Kinds.Pragma Kinds.Layout e = absurd cc
kind_less Kinds.Pragma Kinds.Lifetime e = absurd cc
kind_less Kinds.Pragma Kinds.Member e = absurd cc
kind_less Kinds.Pragma Kinds.Order e = absurd cc
kind_less Kinds.Pragma Kinds.Pragma e = absurd cc
kind_less Kinds.Pragma Kinds.Reserved e = omega arith
kind_less Kinds.Pragma Kinds.Restrict e = omega arith
kind_less Kinds.Pragma Kinds.Unset e = omega arith
kind_less Kinds.Reserved Kinds.Const e = absurd cc
kind_less Kinds.Reserved Kinds.Enum e = absurd cc
kind_less Kinds.Reserved Kinds.Implementation e = absurd cc
kind_less Kinds.Reserved Kinds.Layout e = absurd cc
kind_less Kinds.Reserved Kinds.Lifetime e = absurd cc
kind_less Kinds.Reserved Kinds.Member e = absurd cc
kind_less Kinds.Reserved Kinds.Order e = absurd cc
kind_less Kinds.Reserved Kinds.Pragma e = absurd cc
kind_less Kinds.Reserved Kinds.Reserved e = absurd cc
kind_less Kinds.Reserved Kinds.Restrict e = omega arith
kind_less Kinds.Reserved Kinds.Unset e = omega arith
kind_less Kinds.Restrict Kinds.Const e = absurd cc
kind_less Kinds.Restrict Kinds.Enum e = absurd cc
kind_less Kinds.Restrict Kinds.Implementation e = absurd cc
kind_less Kinds.Restrict Kinds.Layout e = absurd cc
kind_less Kinds.Restrict Kinds.Lifetime e = absurd cc
kind_less Kinds.Restrict Kinds.Member e = absurd cc
kind_less Kinds.Restrict Kinds.Order e = absurd cc
kind_less Kinds.Restrict Kinds.Pragma e = absurd cc
kind_less Kinds.Restrict Kinds.Reserved e = absurd cc
kind_less Kinds.Restrict Kinds.Restrict e = absurd cc
kind_less Kinds.Restrict Kinds.Unset e = omega arith
kind_less Kinds.Unset Kinds.Const e = absurd cc
kind_less Kinds.Unset Kinds.Enum e = absurd cc
kind_less Kinds.Unset Kinds.Implementation e = absurd cc
kind_less Kinds.Unset Kinds.Layout e = absurd cc
kind_less Kinds.Unset Kinds.Lifetime e = absurd cc
kind_less Kinds.Unset Kinds.Member e = absurd cc
kind_less Kinds.Unset Kinds.Order e = absurd cc
kind_less Kinds.Unset Kinds.Pragma e = absurd cc
kind_less Kinds.Unset Kinds.Reserved e = absurd cc
kind_less Kinds.Unset Kinds.Restrict e = absurd cc
kind_less Kinds.Unset Kinds.Unset e = absurd cc

kind_same : (a b : Kind) → kind_eq.eq-value.it a b ≡ true → a ≡ b
kind_same Kinds.Const Kinds.Const e = refl
kind_same Kinds.Const Kinds.Enum e = absurd cc
kind_same Kinds.Const Kinds.Implementation e = absurd cc
kind_same Kinds.Const Kinds.Layout e = absurd cc
kind_same Kinds.Const Kinds.Lifetime e = absurd cc
kind_same Kinds.Const Kinds.Member e = absurd cc
kind_same Kinds.Const Kinds.Order e = absurd cc
kind_same Kinds.Const Kinds.Pragma e = absurd cc
kind_same Kinds.Const Kinds.Reserved e = absurd cc
kind_same Kinds.Const Kinds.Restrict e = absurd cc
kind_same Kinds.Const Kinds.Unset e = absurd cc
kind_same Kinds.Enum Kinds.Const e = absurd cc
kind_same Kinds.Enum Kinds.Enum e = refl
kind_same Kinds.Enum Kinds.Implementation e = absurd cc
kind_same Kinds.Enum Kinds.Layout e = absurd cc
kind_same Kinds.Enum Kinds.Lifetime e = absurd cc
kind_same Kinds.Enum Kinds.Member e = absurd cc
kind_same Kinds.Enum Kinds.Order e = absurd cc
kind_same Kinds.Enum Kinds.Pragma e = absurd cc
kind_same Kinds.Enum Kinds.Reserved e = absurd cc
kind_same Kinds.Enum Kinds.Restrict e = absurd cc
kind_same Kinds.Enum Kinds.Unset e = absurd cc
kind_same Kinds.Implementation Kinds.Const e = absurd cc
kind_same Kinds.Implementation Kinds.Enum e = absurd cc
kind_same Kinds.Implementation Kinds.Implementation e = refl
kind_same Kinds.Implementation Kinds.Layout e = absurd cc
kind_same Kinds.Implementation Kinds.Lifetime e = absurd cc
kind_same Kinds.Implementation Kinds.Member e = absurd cc
kind_same Kinds.Implementation Kinds.Order e = absurd cc
kind_same Kinds.Implementation Kinds.Pragma e = absurd cc
kind_same Kinds.Implementation Kinds.Reserved e = absurd cc
kind_same Kinds.Implementation Kinds.Restrict e = absurd cc
kind_same Kinds.Implementation Kinds.Unset e = absurd cc
kind_same Kinds.Layout Kinds.Const e = absurd cc
kind_same Kinds.Layout Kinds.Enum e = absurd cc
kind_same Kinds.Layout Kinds.Implementation e = absurd cc
kind_same Kinds.Layout Kinds.Layout e = refl
kind_same Kinds.Layout Kinds.Lifetime e = absurd cc
kind_same Kinds.Layout Kinds.Member e = absurd cc
kind_same Kinds.Layout Kinds.Order e = absurd cc
kind_same Kinds.Layout Kinds.Pragma e = absurd cc
kind_same Kinds.Layout Kinds.Reserved e = absurd cc
kind_same Kinds.Layout Kinds.Restrict e = absurd cc
kind_same Kinds.Layout Kinds.Unset e = absurd cc
kind_same Kinds.Lifetime Kinds.Const e = absurd cc
kind_same Kinds.Lifetime Kinds.Enum e = absurd cc
kind_same Kinds.Lifetime Kinds.Implementation e = absurd cc
kind_same Kinds.Lifetime Kinds.Layout e = absurd cc
kind_same Kinds.Lifetime Kinds.Lifetime e = refl
kind_same Kinds.Lifetime Kinds.Member e = absurd cc
kind_same Kinds.Lifetime Kinds.Order e = absurd cc
kind_same Kinds.Lifetime Kinds.Pragma e = absurd cc
kind_same Kinds.Lifetime Kinds.Reserved e = absurd cc
kind_same Kinds.Lifetime Kinds.Restrict e = absurd cc
kind_same Kinds.Lifetime Kinds.Unset e = absurd cc
kind_same Kinds.Member Kinds.Const e = absurd cc
kind_same Kinds.Member Kinds.Enum e = absurd cc
kind_same Kinds.Member Kinds.Implementation e = absurd cc
kind_same Kinds.Member Kinds.Layout e = absurd cc
kind_same Kinds.Member Kinds.Lifetime e = absurd cc
kind_same Kinds.Member Kinds.Member e = refl
kind_same Kinds.Member Kinds.Order e = absurd cc
kind_same Kinds.Member Kinds.Pragma e = absurd cc
kind_same Kinds.Member Kinds.Reserved e = absurd cc
kind_same Kinds.Member Kinds.Restrict e = absurd cc
kind_same Kinds.Member Kinds.Unset e = absurd cc
kind_same Kinds.Order Kinds.Const e = absurd cc
kind_same Kinds.Order Kinds.Enum e = absurd cc
kind_same Kinds.Order Kinds.Implementation e = absurd cc
kind_same Kinds.Order Kinds.Layout e = absurd cc
kind_same Kinds.Order Kinds.Lifetime e = absurd cc
kind_same Kinds.Order Kinds.Member e = absurd cc
kind_same Kinds.Order Kinds.Order e = refl
kind_same Kinds.Order Kinds.Pragma e = absurd cc
kind_same Kinds.Order Kinds.Reserved e = absurd cc
kind_same Kinds.Order Kinds.Restrict e = absurd cc
kind_same Kinds.Order Kinds.Unset e = absurd cc
kind_same Kinds.Pragma Kinds.Const e = absurd cc
kind_same Kinds.Pragma Kinds.Enum e = absurd cc
kind_same Kinds.Pragma Kinds.Implementation e = absurd cc
kind_same Kinds.Pragma Kinds.Layout e = absurd cc
kind_same Kinds.Pragma Kinds.Lifetime e = absurd cc
kind_same Kinds.Pragma Kinds.Member e = absurd cc
kind_same Kinds.Pragma Kinds.Order e = absurd cc
kind_same Kinds.Pragma Kinds.Pragma e = refl
kind_same Kinds.Pragma Kinds.Reserved e = absurd cc
kind_same Kinds.Pragma Kinds.Restrict e = absurd cc
kind_same Kinds.Pragma Kinds.Unset e = absurd cc
kind_same Kinds.Reserved Kinds.Const e = absurd cc
kind_same Kinds.Reserved Kinds.Enum e = absurd cc
kind_same Kinds.Reserved Kinds.Implementation e = absurd cc
kind_same Kinds.Reserved Kinds.Layout e = absurd cc
kind_same Kinds.Reserved Kinds.Lifetime e = absurd cc
kind_same Kinds.Reserved Kinds.Member e = absurd cc
kind_same Kinds.Reserved Kinds.Order e = absurd cc
kind_same Kinds.Reserved Kinds.Pragma e = absurd cc
kind_same Kinds.Reserved Kinds.Reserved e = refl
kind_same Kinds.Reserved Kinds.Restrict e = absurd cc
kind_same Kinds.Reserved Kinds.Unset e = absurd cc
kind_same Kinds.Restrict Kinds.Const e = absurd cc
kind_same Kinds.Restrict Kinds.Enum e = absurd cc
kind_same Kinds.Restrict Kinds.Implementation e = absurd cc
kind_same Kinds.Restrict Kinds.Layout e = absurd cc
kind_same Kinds.Restrict Kinds.Lifetime e = absurd cc
kind_same Kinds.Restrict Kinds.Member e = absurd cc
kind_same Kinds.Restrict Kinds.Order e = absurd cc
kind_same Kinds.Restrict Kinds.Pragma e = absurd cc
kind_same Kinds.Restrict Kinds.Reserved e = absurd cc
kind_same Kinds.Restrict Kinds.Restrict e = refl
kind_same Kinds.Restrict Kinds.Unset e = absurd cc
kind_same Kinds.Unset Kinds.Const e = absurd cc
kind_same Kinds.Unset Kinds.Enum e = absurd cc
kind_same Kinds.Unset Kinds.Implementation e = absurd cc
kind_same Kinds.Unset Kinds.Layout e = absurd cc
kind_same Kinds.Unset Kinds.Lifetime e = absurd cc
kind_same Kinds.Unset Kinds.Member e = absurd cc
kind_same Kinds.Unset Kinds.Order e = absurd cc
kind_same Kinds.Unset Kinds.Pragma e = absurd cc
kind_same Kinds.Unset Kinds.Reserved e = absurd cc
kind_same Kinds.Unset Kinds.Restrict e = absurd cc
kind_same Kinds.Unset Kinds.Unset e = refl

before_by : (a b : Choice) (r s t : Ordering)
    → MatchOrdering r (a.place.line < b.place.line) (a.place.line ≡ b.place.line) (b.place.line < a.place.line)
    → MatchOrdering s (a.place.col < b.place.col) (a.place.col ≡ b.place.col) (b.place.col < a.place.col)
    → (t ≡ Less → kind_number a.kind < kind_number b.kind) → ordering_then (ordering_then r s) t ≡ Less
    → IsBefore a b
before_by a b Less s t m n f e = inl (inl m)
before_by a b Equal Less t m n f e = inl (inr (m, n))
before_by a b Equal Equal t m n f e = inr (λ i. record { line = m i; col = n i }, f e)
before_by a b Equal Greater t m n f e = absurd cc
before_by a b Greater s t m n f e = absurd cc

is_before : (a b : Choice) → cmp-value.it a b ≡ Less → IsBefore a b
is_before a b e =
    before_by a b (nat_cmp a.place.line b.place.line) (nat_cmp a.place.col b.place.col)
    (kind_ord.cmp-value.it a.kind b.kind)
    (ranked a.place.line b.place.line (nat_cmp a.place.line b.place.line) refl)
    (ranked a.place.col b.place.col (nat_cmp a.place.col b.place.col) refl) (kind_less a.kind b.kind) e

both_of : (x y : Bool) → (x && y) ≡ true → (x ≡ true) × (y ≡ true)
both_of true y e = (refl, e)
both_of false y e = absurd cc

is_same : (a b : Choice) → eq-value.it a b ≡ true → a ≡ b
is_same a b e =
    let places = both_of ((a.place.line == b.place.line) && (a.place.col == b.place.col))
    (kind_eq.eq-value.it a.kind b.kind) e in
    let parts = both_of (a.place.line == b.place.line) (a.place.col == b.place.col) places.0 in
    let line = eqb-true a.place.line b.place.line parts.0 in
    let col = eqb-true a.place.col b.place.col parts.1 in
    let kind = kind_same a.kind b.kind places.1 in
    λ i. record { place = record { line = line i; col = col i }; kind = kind i }

rising : (R : Choice → Choice → Ordering) → ((a b : Choice) → R a b ≡ Less → IsBefore a b) → (cs : List Choice)
    → IsStrictlySortedBy R cs → AreRising cs
rising R less [] s = tt
rising R less (a ∷ []) s = tt
rising R less (a ∷ b ∷ rest) s = (
  less a b (Less-from_sorted R (a ∷ b ∷ rest) 0 1 a s (omega arith) (omega arith)),
  rising R less (b ∷ rest) (sorted_tail R a (b ∷ rest) s),
)

module _ (given ordered kept : List Choice) (perm : IsPermutation given ordered)
    (sorted : IsSorted cmp-value.it ordered) (filtered : IsFiltered (DiffersFromLast eq-value.it) [] ordered kept) where
  are : kept ≡ dedup eq-value.it ordered
  are = dedup_is eq-value.it ordered kept filtered

  pub are_rising : AreRising kept
  are_rising = rising cmp-value.it is_before kept
      (subst (IsStrictlySortedBy cmp-value.it) (sym are)
      (IsStrictlySortedBy-dedup total-law matches_eq-law ordered sorted))

  pub same_choices : (c : Choice) → Contains kept c ↔ Contains given c
  same_choices c = (
    λ h. Contains-permutation ordered given c (IsPermutation-sym given ordered perm)
        (Contains-from_dedup eq-value.it ordered c (subst (λ z. Contains z c) are h)),
    λ h. subst (λ z. Contains z c) (sym are)
        (Contains-dedup laws-law is_same ordered c (Contains-permutation given ordered c perm h)),
  )
