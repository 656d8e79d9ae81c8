-- The members of a set, by its ends and its stride.
use Rattle.std.proofs.Common.{◌≡◌, ◌+◌, ◌*◌, ◌≤◌, ℤ, pos, ◌+ℤ◌, ◌≤ℤ◌, ◌⊎◌, inl, inr, ⊎_elim, refl, sym, ap, ◌∙◌, subst, arith, le_of_mul-le-mul_right, mul-le-mul_right}
use Rattle.std.specs.Int.{◌∣◌}
use Rattle.std.proofs.Math.Nat.{eq_of_mul-eq-mul_right, dvd_antisymm}
use Rattle.std.proofs.lemmas.Int.{ints}
use Rattle.strided_dom.specs.Progression.{Progression, empty, single, row, Has, IsSubset, IsSpaced, first_of, last_of, stride_of}
use Rattle.tm_numbers.specs.Congruence.{IsCongruent}
use Rattle.tm_numbers.proofs.Congruences.{cong_sym, cong_trans, cong_up, strides_between, dvd_from_cong}

-- the set has a member
abbrev pub IsSome : Progression → Type 0
IsSome s = Has s (first_of s)

pub some_from : (s : Progression) (v : ℤ) → Has s v → IsSome s
unfolding Has first_of
some_from empty v h = h
some_from (single w) v h = refl
some_from (row first gap more) v h = (0, (omega arith, omega (arith, ints)))

pub has_last : (s : Progression) → IsSome s → Has s (last_of s)
unfolding Has first_of last_of
has_last empty h = h
has_last (single w) h = refl
has_last (row first gap more) h = (more + 1, (omega arith, refl))

pub has_next : (s : Progression) → IsSome s → Has s (first_of s +ℤ pos (stride_of s))
unfolding Has first_of stride_of
has_next empty h = h
has_next (single w) h = omega (arith, ints)
has_next (row first gap more) h = (1, (omega arith, omega (arith, ints)))

pub spaced_from : (s : Progression) (v : ℤ) → Has s v → IsSpaced (first_of s) (last_of s) (stride_of s) v
unfolding Has first_of last_of stride_of
spaced_from empty v h = absurd h
spaced_from (single w) v h = record { from = omega (arith, ints); to = omega (arith, ints); congruent = cong_up 0 0 v w (omega (arith, ints)) }
spaced_from (row first gap more) v h = record {
  from = omega (arith, ints);
  to = omega (arith, ints, mul-le-mul_right {m = h.0} {n = more + 1} (gap + 1) h.1.0);
  congruent = cong_up (gap + 1) h.0 v first h.1.1;
}

pub has_from : (s : Progression) (v : ℤ) → IsSome s → IsSpaced (first_of s) (last_of s) (stride_of s) v → Has s v
unfolding Has first_of last_of stride_of
has_from empty v some h = some
has_from (single w) v some h = omega (arith, ints)
has_from (row first gap more) v some h =
    let k = strides_between h.congruent h.from in
    let within : k.0 * (gap + 1) ≤ (more + 1) * (gap + 1) = omega (arith, ints, k.1) in
    (k.0, (le_of_mul-le-mul_right {k = gap + 1} within (omega arith), k.1))

-- two members are congruent modulo the stride
pub cong_members : (s : Progression) (v w : ℤ) → Has s v → Has s w → IsCongruent (stride_of s) v w
cong_members s v w h k = cong_trans (spaced_from s v h).congruent (cong_sym (spaced_from s w k).congruent)

-- the stride of a greater set divides that of a smaller one
pub stride_dvd : (s t : Progression) → IsSome s → IsSubset s t → stride_of t ∣ stride_of s
stride_dvd s t some below =
    dvd_from_cong (first_of s) (cong_members t (first_of s +ℤ pos (stride_of s)) (first_of s) (below.within _ (has_next s some)) (below.within _ some))

-- how the ends and the stride belong together
pub first_le_last : (s : Progression) → first_of s ≤ℤ last_of s
unfolding first_of last_of
first_le_last empty = omega (arith, ints)
first_le_last (single w) = omega (arith, ints)
first_le_last (row first gap more) = omega (arith, ints)

pub ends_from_stride : (s : Progression) → stride_of s ≡ 0 → last_of s ≡ first_of s
unfolding first_of last_of stride_of
ends_from_stride empty h = refl
ends_from_stride (single w) h = refl
ends_from_stride (row first gap more) h = absurd (omega arith)

pub stride_from_ends : (s : Progression) → last_of s ≡ first_of s → stride_of s ≡ 0
unfolding first_of last_of stride_of
stride_from_ends empty h = refl
stride_from_ends (single w) h = refl
stride_from_ends (row first gap more) h = absurd (omega (arith, ints))

-- the ends and the stride determine a set that has a member
pub same_from_parts : (s t : Progression) → IsSome s → IsSome t → first_of s ≡ first_of t → last_of s ≡ last_of t → stride_of s ≡ stride_of t → s ≡ t
unfolding Has first_of last_of stride_of
same_from_parts empty t h k e f g = absurd h
same_from_parts (single v) empty h k e f g = absurd k
same_from_parts (single v) (single w) h k e f g = ap single e
same_from_parts (single v) (row first gap more) h k e f g = absurd (omega arith)
same_from_parts (row first gap more) empty h k e f g = absurd k
same_from_parts (row first gap more) (single w) h k e f g = absurd (omega arith)
same_from_parts (row first gap more) (row first' gap' more') h k e f g =
    let gaps : gap ≡ gap' = omega arith in
    let same : (more + 1) * (gap + 1) ≡ (more' + 1) * (gap + 1) = (let g' = ap (λ x. (more' + 1) * x) g in omega (arith, ints)) in
    let steps : more + 1 ≡ more' + 1 = eq_of_mul-eq-mul_right (gap + 1) (omega arith) (more + 1) (more' + 1) same in
    let mores : more ≡ more' = omega arith in
    cc

pub no_member : (s : Progression) → ((v : ℤ) → Has s v → ⊥) → s ≡ empty
unfolding Has
no_member empty h = refl
no_member (single w) h = absurd (h w refl)
no_member (row first gap more) h = absurd (h first (0, (omega arith, omega (arith, ints))))

pub some_or_empty : (s : Progression) → IsSome s ⊎ (s ≡ empty)
unfolding Has first_of
some_or_empty empty = inr refl
some_or_empty (single w) = inl refl
some_or_empty (row first gap more) = inl (0, (omega arith, omega (arith, ints)))

pub not_in_empty : (v : ℤ) → Has empty v → ⊥
unfolding Has
not_in_empty v h = h

-- where two sets that lie below one another begin, end and step
pub below_antisym : (s t : Progression) → IsSubset s t → IsSubset t s → s ≡ t
below_antisym s t h k = ⊎_elim both none (some_or_empty s)
  where
    both : IsSome s → s ≡ t
    both some =
        let some' = some_from t _ (h.within _ some) in
        let a = spaced_from t _ (h.within _ some) in
        let b = spaced_from t _ (h.within _ (has_last s some)) in
        let a' = spaced_from s _ (k.within _ some') in
        let b' = spaced_from s _ (k.within _ (has_last t some')) in
        same_from_parts s t some some' (omega (arith, ints, a.from, a'.from)) (omega (arith, ints, b.to, b'.to))
        (dvd_antisymm (stride_dvd t s some' k) (stride_dvd s t some h))

    none : s ≡ empty → s ≡ t
    none e = e ∙ sym (no_member t (λ v p. not_in_empty v (subst (λ x. Has x v) e (k.within v p))))
