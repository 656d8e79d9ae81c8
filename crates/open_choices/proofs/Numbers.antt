-- Numbers that are beyond a type, negative, positive or smaller than others, and steps that lead out of an array, by the least and the greatest.
use Rattle.std.proofs.Common.{◌≡◌, ◌⊎◌, ℕ, ◌+◌, ◌<◌, inl, inr, refl, sym, ap, subst, ◌∙◌, ℤ, pos, ◌+ℤ◌, ◌≤ℤ◌, ◌<ℤ◌}
use Rattle.std.proofs.Common.{◌↔◌, Bool, true, false, not, IsTrue, arith}
use Rattle.std.proofs.lemmas.Bool.{cases_eq, false≢true}
use Rattle.std.proofs.lemmas.Int.{ints}
use Rattle.tm_cint.specs.IntTypes.{lo_of, hi_of}
use Rattle.tm_cint.specs.declared.int_types.IntType.{IntType}
use Rattle.tm_typed.specs.declared.expressions.Unary.{Unary}
use Rattle.tm_typed.specs.declared.expressions.Unary.TheVariants as Unaries
use Rattle.tm_laid.specs.Layouts.{stands_at}
use Rattle.strided_dom.specs.Progression.{Progression, empty, Has, first_of, IsLeastNumber, IsGreatestNumber}
use Rattle.strided_dom.proofs.Members.{not_in_empty, some_or_empty, spaced_from}
use Rattle.pointer_dom.specs.OffsetSets.{OffsetSet, AreEnds}
use Rattle.part_extents.specs.declared.extents.Extent.{Extent}
use Rattle.operand_orders.specs.Reached.{SolvedBody}
use Rattle.open_choices.specs.Members.{Leaves}
use Rattle.open_choices.specs.Enumerations.{HasNegative, HasSmaller, TurnsNegative, negated, complemented}
use Rattle.open_choices.specs.reading.Enumerated.{HasPositive}
use Rattle.open_choices.specs.reading.Found.{HasBeyond, LeavesArray, LeavesFrom, LeavesIn}

pub none_beyond : (of : IntType) (s : Progression) → s ≡ empty → HasBeyond of s → ⊥
none_beyond of s e h = not_in_empty h.number (subst (λ t. Has t h.number) e h.has)

pub none_negative : (s : Progression) → s ≡ empty → HasNegative s → ⊥
none_negative s e h = not_in_empty h.number (subst (λ t. Has t h.number) e h.has)

pub unsigned_beyond : (of : IntType) (s : Progression) → pos 0 ≤ℤ lo_of of → HasBeyond of s → ⊥
unsigned_beyond of s h k = let low = k.beyond.signed in omega (arith, ints, low, h)

pub beyond_low : (of : IntType) (s : Progression) (n : ℤ) → Has s n → lo_of of <ℤ pos 0 → n <ℤ lo_of of → HasBeyond of s
beyond_low of s n has signed less =
    record { number = n; has = has; beyond = record { signed = signed; beyond = inl less } }

pub beyond_high : (of : IntType) (s : Progression) (n : ℤ) → Has s n → lo_of of <ℤ pos 0 → hi_of of <ℤ n
    → HasBeyond of s
beyond_high of s n has signed more =
    record { number = n; has = has; beyond = record { signed = signed; beyond = inr more } }

pub not_beyond : (of : IntType) (s : Progression) (lo hi : ℤ) → IsLeastNumber (Has s) lo → IsGreatestNumber (Has s) hi
    → lo_of of ≤ℤ lo → hi ≤ℤ hi_of of → HasBeyond of s → ⊥
not_beyond of s lo hi least greatest low high h =
    let from = least.bound h.number h.has in
    let to = greatest.bound h.number h.has in
    elim h.beyond.beyond [
      | inl less ↦ omega (arith, ints, from, low, less)
      | inr more ↦ omega (arith, ints, to, high, more)
    ]

pub is_negative : (s : Progression) (n : ℤ) → Has s n → n <ℤ pos 0 → HasNegative s
is_negative s n has less = record { number = n; has = has; negative = less }

pub not_negative : (s : Progression) (lo : ℤ) → IsLeastNumber (Has s) lo → pos 0 ≤ℤ lo → HasNegative s → ⊥
not_negative s lo least low h =
    let from = least.bound h.number h.has in
    let less = h.negative in
    omega (arith, ints, from, low, less)

pub none_positive : (s : Progression) → s ≡ empty → HasPositive s → ⊥
none_positive s e h = not_in_empty h.number (subst (λ t. Has t h.number) e h.has)

pub is_positive : (s : Progression) (n : ℤ) → Has s n → pos 0 <ℤ n → HasPositive s
is_positive s n has more = record { number = n; has = has; positive = more }

pub not_positive : (s : Progression) (hi : ℤ) → IsGreatestNumber (Has s) hi → hi ≤ℤ pos 0 → HasPositive s → ⊥
not_positive s hi greatest high h =
    let to = greatest.bound h.number h.has in
    let more = h.positive in
    omega (arith, ints, to, high, more)

-- ## Operators on one operand

module _ (s : Progression) where
  positive_by : (op : Unary) → TurnsNegative s op → op ≡ Unaries.Negate → HasPositive s
  positive_by op (negated n has more) is = is_positive s n has more
  positive_by op (complemented n has) is = absurd (cc)

  pub turned_by_minus : (op : Unary) → op ≡ Unaries.Negate → (test : Bool) → (IsTrue test ↔ HasPositive s)
      → IsTrue test ↔ TurnsNegative s op
  turned_by_minus op is test same = (
    λ e. (let h = same.0 e in subst (TurnsNegative s) (sym is) (negated h.number h.has h.positive)),
    λ t. same.1 (positive_by op t is),
  )

  some_by : (op : Unary) → TurnsNegative s op → s ≡ empty → ⊥
  some_by op (negated n has more) e = not_in_empty n (subst (λ t. Has t n) e has)
  some_by op (complemented n has) e = not_in_empty n (subst (λ t. Has t n) e has)

  turned_some : (op : Unary) → op ≡ Unaries.Complement → (s ≡ empty → ⊥) → TurnsNegative s op
  turned_some op is some = subst (TurnsNegative s) (sym is) (elim (some_or_empty s) [
    | inl has ↦ complemented (first_of s) has
    | inr e ↦ absurd (some e)
  ])

  pub turned_by_tilde : (op : Unary) → op ≡ Unaries.Complement → (none : Bool) → (IsTrue none ↔ (s ≡ empty))
      → IsTrue (not none) ↔ TurnsNegative s op
  turned_by_tilde op is true same = (λ e. absurd (false≢true e), λ t. absurd (some_by op t (same.0 refl)))
  turned_by_tilde op is false same = (λ e. turned_some op is (λ n. false≢true (same.1 n)), λ t. refl)

-- a number that is smaller than one of others
module _ (s t : Progression) where
  pub none_on_left : s ≡ empty → HasSmaller s t → ⊥
  none_on_left e h = not_in_empty h.number (subst (λ x. Has x h.number) e h.has)

  pub none_on_right : t ≡ empty → HasSmaller s t → ⊥
  none_on_right e h = not_in_empty h.other (subst (λ x. Has x h.other) e h.beside)

  pub is_smaller : (n m : ℤ) → Has s n → Has t m → n <ℤ m → HasSmaller s t
  is_smaller n m has beside less = record { number = n; other = m; has = has; beside = beside; smaller = less }

  pub not_smaller : (lo hi : ℤ) → IsLeastNumber (Has s) lo → IsGreatestNumber (Has t) hi → hi ≤ℤ lo
      → HasSmaller s t → ⊥
  not_smaller lo hi least greatest le h =
      let from = least.bound h.number h.has in
      let to = greatest.bound h.other h.beside in
      let less = h.smaller in
      omega (arith, ints, from, to, le, less)

module _ (b : SolvedBody) (object target : ℕ) (array : Extent) (offset : ℕ) (steps : Progression) where
  pub no_steps : steps ≡ empty → LeavesArray b object target array offset (Has steps) → ⊥
  no_steps e h = not_in_empty h.step (subst (λ t. Has t h.step) e h.by)

  pub leaves_low : (step : ℤ) → Has steps step → (pos offset +ℤ step) <ℤ pos array.begin
      → LeavesArray b object target array offset (Has steps)
  leaves_low step has less = record { step = step; by = has; leaves = inl less }

  pub leaves_high : (step : ℤ) → Has steps step → pos array.end <ℤ (pos offset +ℤ step)
      → LeavesArray b object target array offset (Has steps)
  leaves_high step has more = record { step = step; by = has; leaves = inr (inl more) }

  pub leaves_end : (step : ℤ) → Has steps step → (pos offset +ℤ step) ≡ pos array.end
      → stands_at b.laid object array.end target ≡ true → LeavesArray b object target array offset (Has steps)
  leaves_end step has at there = record { step = step; by = has; leaves = inr (inr (at, there)) }

  pub stays : (lo hi : ℤ) → IsLeastNumber (Has steps) lo → IsGreatestNumber (Has steps) hi
      → pos array.begin ≤ℤ (pos offset +ℤ lo) → (pos offset +ℤ hi) ≤ℤ pos array.end
      → ((step : ℤ) → Has steps step → (pos offset +ℤ step) ≡ pos array.end
      → stands_at b.laid object array.end target ≡ true → ⊥) → LeavesArray b object target array offset (Has steps) → ⊥
  stays lo hi least greatest low high end h =
      let from = least.bound h.step h.by in
      let to = greatest.bound h.step h.by in
      elim h.leaves [
        | inl less ↦ omega (arith, ints, from, low, less)
        | inr x ↦ elim x [ inl more ↦ omega (arith, ints, to, high, more) | inr e ↦ end h.step h.by e.0 e.1 ]
      ]

-- ## Offsets, one by one

module _ (o : OffsetSet) (b : SolvedBody) (object target : ℕ) (Steps : ℤ → Type 0) where
  -- none of the offsets below a number leaves
  abbrev pub NoneLeaves : ℕ → Type 0
  NoneLeaves n = (k : ℕ) → k < n → Has o.offsets (pos k) → LeavesFrom b object target k Steps → ⊥

  pub none_at_all : o.offsets ≡ empty → LeavesIn b object target o.offsets Steps → ⊥
  none_at_all e h = not_in_empty (pos h.offset) (subst (λ t. Has t (pos h.offset)) e h.has)

  pub none_more : (n : ℕ) → NoneLeaves n
      → ((Has o.offsets (pos n) × LeavesFrom b object target n Steps) → ⊥) → NoneLeaves (n + 1)
  none_more n before not_here k lt has leaves =
      elim (cases_eq k n) [
        | inl same ↦ not_here
            (subst (λ m. Has o.offsets (pos m) × LeavesFrom b object target m Steps) same (has, leaves))
        | inr differ ↦ before k (omega (arith, lt, differ)) has leaves
      ]

  module _ (first last : ℕ) (ends : AreEnds o first last) where
    pub none_before : NoneLeaves first
    none_before k lt has leaves =
        let from = subst (λ x. x ≤ℤ pos k) ends.first_is (spaced_from o.offsets (pos k) has).from in
        omega (arith, ints, lt, from)

    pub none_behind : (n : ℕ) → last < n → NoneLeaves n → LeavesIn b object target o.offsets Steps → ⊥
    none_behind n past none h =
        let to = subst (λ x. pos h.offset ≤ℤ x) ends.last_is (spaced_from o.offsets (pos h.offset) h.has).to in
        none h.offset (omega (arith, ints, past, to)) h.has h.leaves
