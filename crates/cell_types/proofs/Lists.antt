-- Elements of lists that are put together.
use Rattle.std.proofs.Common.{◌≡◌, refl, ap, sym, ◌∙◌, ℕ, zero, suc, ◌+◌, ◌-◌, ◌*◌, ◌%◌, ◌<◌, ◌≤◌, inl, inr, Bool, true, false, ◌&&◌, List, [], ◌∷◌, ◌++◌, length, take, drop, None, slice_get, arith}
use Rattle.std.proofs.lemmas.Bool.{cases_lt}
use Rattle.std.proofs.Math.Nat.{mod-eq_of_lt, mul-add-mod_self_left}
use Rattle.tm_typed.specs.declared.types.Scalar.{Scalar}
use Rattle.tm_laid.specs.Layouts.{is_same_scalar, begins_with}
use Rattle.cell_types.specs.reading.Descents.{is_same_cell}

pub get_front : {A : Type 0} (xs ys : List A) (i : ℕ) → i < length xs → slice_get (xs ++ ys) i ≡ slice_get xs i
get_front [] ys i h = absurd (omega (arith, h))
get_front (x ∷ xs) ys zero h = refl
get_front (x ∷ xs) ys (suc i) h = get_front xs ys i (omega (arith, h))

pub get_back : {A : Type 0} (xs ys : List A) (i : ℕ) → slice_get (xs ++ ys) (length xs + i) ≡ slice_get ys i
get_back [] ys i = ap (λ z. slice_get ys z) (let q : 0 + i ≡ i = omega arith in q)
get_back (x ∷ xs) ys i = ap (λ z. slice_get (x ∷ xs ++ ys) z) (let q : suc (length xs) + i ≡ suc (length xs + i) = omega arith in q) ∙ get_back xs ys i

pub get_behind : {A : Type 0} (xs ys : List A) (i : ℕ) → length xs ≤ i → slice_get (xs ++ ys) i ≡ slice_get ys (i - length xs)
get_behind xs ys i h = ap (λ z. slice_get (xs ++ ys) z) (let q : i ≡ length xs + (i - length xs) = omega (arith, h) in q) ∙ get_back xs ys (i - length xs)

pub get_drop : {A : Type 0} (n : ℕ) (xs : List A) (i : ℕ) → slice_get (drop n xs) i ≡ slice_get xs (n + i)
get_drop zero xs i = ap (λ z. slice_get xs z) (let q : i ≡ 0 + i = omega arith in q)
get_drop (suc n) [] i = refl
get_drop (suc n) (x ∷ xs) i = get_drop n xs i ∙ ap (λ z. slice_get (x ∷ xs) z) (let q : suc (n + i) ≡ suc n + i = omega arith in q)

pub get_take : {A : Type 0} (n : ℕ) (xs : List A) (i : ℕ) → i < n → slice_get (take n xs) i ≡ slice_get xs i
get_take zero xs i h = absurd (omega (arith, h))
get_take (suc n) [] i h = refl
get_take (suc n) (x ∷ xs) zero h = refl
get_take (suc n) (x ∷ xs) (suc i) h = get_take n xs i (omega (arith, h))

pub past_take : {A : Type 0} (n : ℕ) (xs : List A) (i : ℕ) → n ≤ i → slice_get (take n xs) i ≡ None
past_take zero xs i h = refl
past_take (suc n) [] i h = refl
past_take (suc n) (x ∷ xs) zero h = absurd (omega (arith, h))
past_take (suc n) (x ∷ xs) (suc i) h = past_take n xs i (omega (arith, h))

-- ## Lists that are begun with

drop_nil : (j : ℕ) → drop j (let none : List Scalar = [] in none) ≡ []
drop_nil zero = refl
drop_nil (suc j) = refl

pub begins_next : (xs ys : List Scalar) (j : ℕ) → j < length ys
    → begins_with (drop j xs) (drop j ys) ≡ (is_same_cell (slice_get xs j) (slice_get ys j) && begins_with (drop (suc j) xs) (drop (suc j) ys))
begins_next xs [] j h = absurd (omega (arith, h))
begins_next [] (y ∷ ys) zero h = refl
begins_next (x ∷ xs) (y ∷ ys) zero h = refl
begins_next [] (y ∷ ys) (suc j) h =
    ap (λ z. begins_with z (drop j ys)) (sym (drop_nil j)) ∙ begins_next [] ys j (omega (arith, h))
begins_next (x ∷ xs) (y ∷ ys) (suc j) h = begins_next xs ys j (omega (arith, h))

and_false : (a : Bool) → (a && false) ≡ false
and_false true = refl
and_false false = refl

pub shorter : (xs ys : List Scalar) → length xs < length ys → begins_with xs ys ≡ false
shorter xs [] h = absurd (omega (arith, h))
shorter [] (y ∷ ys) h = refl
shorter (x ∷ xs) (y ∷ ys) h = ap (λ b. is_same_scalar x y && b) (shorter xs ys (omega (arith, h))) ∙ and_false (is_same_scalar x y)

pub dropped_all : (xs ys : List Scalar) (j : ℕ) → length ys ≤ j → begins_with (drop j xs) (drop j ys) ≡ true
dropped_all xs [] zero h = refl
dropped_all xs (y ∷ ys) zero h = absurd (omega (arith, h))
dropped_all xs [] (suc j) h = refl
dropped_all [] (y ∷ ys) (suc j) h =
    ap (λ z. begins_with z (drop j ys)) (sym (drop_nil j)) ∙ dropped_all [] ys j (omega (arith, h))
dropped_all (x ∷ xs) (y ∷ ys) (suc j) h = dropped_all xs ys j (omega (arith, h))

-- ## Repeated lists

abbrev pub repeated : {A : Type 0} → ℕ → List A → List A
repeated zero xs = []
repeated (suc n) xs = xs ++ repeated n xs

pub length_append : {A : Type 0} (xs ys : List A) → length (xs ++ ys) ≡ length xs + length ys
length_append [] ys = omega arith
length_append (x ∷ xs) ys = let e = length_append xs ys in omega (arith, e)

pub length_repeated : {A : Type 0} (n : ℕ) (xs : List A) → length (repeated n xs) ≡ n * length xs
length_repeated zero xs = omega arith
length_repeated (suc n) xs = length_append xs (repeated n xs) ∙ (let e = length_repeated n xs in let q : suc n * length xs ≡ length xs + n * length xs = omega arith in omega (arith, e, q))

-- an element of a list that is repeated is that of the list
pub get_repeated : {A : Type 0} (n : ℕ) (xs : List A) (j c : ℕ) → c ≡ length xs → j < n * c → slice_get (repeated n xs) j ≡ slice_get xs (j % c)
get_repeated zero xs j c e h = absurd (let q : zero * c ≡ 0 = omega arith in omega (arith, h, q))
get_repeated (suc n) xs j c e h = elim (cases_lt j c) [
  | inl lt ↦ get_front xs (repeated n xs) j (omega (arith, lt, e)) ∙ ap (λ z. slice_get xs z) (sym (mod-eq_of_lt lt))
  | inr ge ↦
      get_behind xs (repeated n xs) j (omega (arith, ge, e)) ∙ ap (λ z. slice_get (repeated n xs) (j - z)) (sym e)
      ∙ get_repeated n xs (j - c) c e (let q : suc n * c ≡ c + n * c = omega arith in omega (arith, h, q, ge))
      ∙ ap (λ z. slice_get xs z) (less_mod j c ge)
]
  where
    less_mod : (j c : ℕ) → c ≤ j → (j - c) % c ≡ j % c
    less_mod j c ge = sym (mul-add-mod_self_left c 1 (j - c)) ∙ ap (λ z. z % c) (let p : c * 1 ≡ c = omega arith in omega (arith, ge, p))
