-- Sets of integers whose fields are equal.
use Rattle.std.proofs.Common.{◌≡◌, ℕ, zero, suc, ◌*◌, ◌+◌, ◌<◌, ℤ, pos, ◌+ℤ◌, Bool, true, false, ◌&&◌, refl, sym, ap, subst, ◌∙◌, ◌/◌, arith, int_eq, ◌==◌}
use Rattle.std.proofs.lemmas.Bool.{false≢true}
use Rattle.std.proofs.lemmas.Bool.Decides.{Decides-int_eq, Decides-eqb}
use Rattle.std.proofs.lemmas.Int.{ints}
use Rattle.std.proofs.Math.Nat.{mul-div_cancel}
use Rattle.strided_dom.specs.Progression.{Progression, empty, single, row, IsSubset}
use Rattle.strided_dom.specs.reading.Fields.{fields_of}

both_true : (x y : Bool) → (x && y) ≡ true → (x ≡ true) × (y ≡ true)
both_true true y e = (refl, e)
both_true false y e = absurd (false≢true e)

steps_same : (g m n : ℕ) → suc m * suc g ≡ suc n * suc g → m ≡ n
steps_same g m n e =
    let counted : (k : ℕ) → suc k * suc g / suc g ≡ suc k = λ k. mul-div_cancel (suc k) (omega arith) in
    let same : suc m ≡ suc n = sym (counted m) ∙ ap (λ x. x / suc g) e ∙ counted n in
    omega (arith, same)

same_parts : (p q : Progression) → (fields_of p).lo ≡ (fields_of q).lo → (fields_of p).hi ≡ (fields_of q).hi → (fields_of p).stride ≡ (fields_of q).stride → p ≡ q
unfolding fields_of
same_parts empty empty lo hi stride = refl
same_parts empty (single w) lo hi stride = absurd (omega (arith, ints, lo, hi))
same_parts empty (row f g m) lo hi stride = absurd (omega (arith, stride))
same_parts (single v) empty lo hi stride = absurd (omega (arith, ints, lo, hi))
same_parts (single v) (single w) lo hi stride = ap single lo
same_parts (single v) (row f g m) lo hi stride = absurd (omega (arith, stride))
same_parts (row f g m) empty lo hi stride = absurd (omega (arith, stride))
same_parts (row f g m) (single w) lo hi stride = absurd (omega (arith, stride))
same_parts (row f g m) (row f' g' m') lo hi stride =
    let gaps : g ≡ g' = omega (arith, stride) in
    let whole : suc m * suc g ≡ suc m' * suc g' = omega (arith, ints, lo, hi) in
    let steps = steps_same g' m m' (ap (λ x. suc m * suc x) (sym gaps) ∙ whole) in
    λ i. row (lo i) (gaps i) (steps i)

-- where the comparison of the fields holds, the sets are one, so that each is within the other
module _ (p q : Progression) where
  abbrev low : Bool
  low = int_eq (fields_of p).lo (fields_of q).lo

  abbrev high : Bool
  high = int_eq (fields_of p).hi (fields_of q).hi

  abbrev steps : Bool
  steps = (fields_of p).stride == (fields_of q).stride

  pub within_same : (low && (high && steps)) ≡ true → IsSubset p q
  within_same e =
      let first = both_true low (high && steps) e in
      let rest = both_true high steps first.1 in
      let lo = (Decides-int_eq (fields_of p).lo (fields_of q).lo).0 first.0 in
      let hi = (Decides-int_eq (fields_of p).hi (fields_of q).hi).0 rest.0 in
      let stride = (Decides-eqb (fields_of p).stride (fields_of q).stride).0 rest.1 in
      subst (IsSubset p) (same_parts p q lo hi stride) (record { within = λ v h. h })
