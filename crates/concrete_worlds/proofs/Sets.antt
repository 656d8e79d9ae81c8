-- Sets of mutexes: what their digits say of the list of their first mutexes.
use Rattle.std.proofs.Common.{◌≡◌, ◌≢◌, ℕ, zero, suc, ◌+◌, ◌-◌, ◌*◌, ◌^◌, min, ◌<◌, ◌≤◌, ◌==◌, refl, ap, sym, ◌∙◌, Bool, true, false, List, [], ◌∷◌, map, length, get_or, slice_set, arith, bit_and, bit_or}
use Rattle.std.specs.Int.{bit_at, w16, bit_not}
use Rattle.std.proofs.Math.Nat.{pow-suc}
use Rattle.std.proofs.lemmas.Bool.{eq-eqb}
use Rattle.std.proofs.lemmas.Nat.{pow_below}
use Rattle.std.specs.List.{range_with_len}
use Rattle.std.proofs.lemmas.Nat.Bits.{bit_at-lt, bit_at_or, bit_at_and, bit_at_not, bit_at-pow_same, bit_at-pow_other, bit_at-zero, and_pow}
use Rattle.std.proofs.lemmas.List.{get_or-set_same, get_or-set_other, get_or_past}
use Rattle.std.proofs.lemmas.List.FromFn.{length-map-range_with_len, get_or-map-range_with_len, fill_by_all}
use Rattle.std.proofs.Math.ListN.{length-set}
use native.Mathlib.Decide.{ℕ_discrete}
use Rattle.std.proofs.lemmas.Bool.Decides.{nat_tests}
use Rattle.bitflags.specs.Sets.{without}
use Rattle.concrete_worlds.specs.Held.{is_in, first_mutexes}

not_zero : (x : ℕ) → 0 < x → (0 == x) ≡ false
not_zero x h = grind (arith, nat_tests)

pow_pos : (m : ℕ) → 0 < 2 ^ m
pow_pos zero = omega arith
pow_pos (suc m) = omega (arith, pow-suc 2 m, pow_pos m)

-- the test by a mask is one of a digit
has_digit : (h m : ℕ) → is_in h m ≡ (bit_at h m == 1)
has_digit h m = by_digit (bit_at h m) (bit_at-lt h m) refl
  where
    by_digit : (x : ℕ) → x < 2 → bit_at h m ≡ x → is_in h m ≡ (bit_at h m == 1)
    by_digit zero l e =
        let none : bit_and h (2 ^ m) ≡ 0 = omega (arith, and_pow h m, ap (λ z. z * 2 ^ m) e) in
        ap (λ z. z == 2 ^ m) none ∙ not_zero (2 ^ m) (pow_pos m) ∙ ap (λ z. z == 1) (sym e)
    by_digit (suc zero) l e =
        let all : bit_and h (2 ^ m) ≡ 2 ^ m = omega (arith, and_pow h m, ap (λ z. z * 2 ^ m) e) in
        ap (λ z. z == 2 ^ m) all ∙ eq-eqb (2 ^ m) (2 ^ m) refl ∙ ap (λ z. z == 1) (sym e)
    by_digit (suc (suc x)) l e = absurd (omega (arith, l))

length_first : (n d : ℕ) → length (first_mutexes n d) ≡ n
unfolding first_mutexes
length_first n d = length-map-range_with_len (is_in d) 0 n

pub holds_digit : (n d m : ℕ) → m < n → get_or (first_mutexes n d) m false ≡ is_in d m
unfolding first_mutexes
holds_digit n d m h = get_or-map-range_with_len (is_in d) 0 n m m false h (omega arith)

pub holds_none : (n d m : ℕ) → n ≤ m → get_or (first_mutexes n d) m false ≡ false
holds_none n d m h = get_or_past (first_mutexes n d) m false (let e = length_first n d in omega (arith, e, h))

-- a list of tests is that of a set whose digits are these
by_digits : (xs : List Bool) (n d : ℕ) → length xs ≡ n → ((k : ℕ) → k < n → get_or xs k false ≡ is_in d k) → first_mutexes n d ≡ xs
unfolding first_mutexes
by_digits xs n d e h = sym (fill_by_all (is_in d) xs n false e h)

set_length : (n d m : ℕ) (b : Bool) → length (slice_set (first_mutexes n d) m b) ≡ n
set_length n d m b = length-set (first_mutexes n d) m b ∙ length_first n d

taken_here : (d m : ℕ) → true ≡ is_in (bit_or d (2 ^ m)) m
taken_here d m =
    let low = bit_at-lt d m in
    let e : bit_at (bit_or d (2 ^ m)) m ≡ 1 = bit_at_or d (2 ^ m) m ∙ omega (arith, low, bit_at-pow_same m) in
    ap (λ z. z == 1) (sym e) ∙ sym (has_digit (bit_or d (2 ^ m)) m)

taken_there : (d m k : ℕ) → k ≢ m → is_in d k ≡ is_in (bit_or d (2 ^ m)) k
taken_there d m k ne =
    let e : bit_at d k ≡ bit_at (bit_or d (2 ^ m)) k = omega (arith, bit_at_or d (2 ^ m) k, bit_at-pow_other m k ne) in
    has_digit d k ∙ ap (λ z. z == 1) e ∙ sym (has_digit (bit_or d (2 ^ m)) k)

pub more : (n d m : ℕ) → m < n → first_mutexes n (bit_or d (2 ^ m)) ≡ slice_set (first_mutexes n d) m true
more n d m h = by_digits _ n (bit_or d (2 ^ m)) (set_length n d m true) (λ k l. by_place k l (ℕ_discrete k m))
  where
    by_place : (k : ℕ) → k < n → Dec (k ≡ m) → get_or (slice_set (first_mutexes n d) m true) k false ≡ is_in (bit_or d (2 ^ m)) k
    by_place k l (yes e) =
        ap (λ z. get_or (slice_set (first_mutexes n d) m true) z false) e
        ∙ get_or-set_same (first_mutexes n d) m true false (let q = length_first n d in omega (arith, q, h))
        ∙ taken_here d m ∙ ap (λ z. is_in (bit_or d (2 ^ m)) z) (sym e)
    by_place k l (no ne) =
        get_or-set_other (first_mutexes n d) m k true false ne ∙ holds_digit n d k l ∙ taken_there d m k ne

-- ## A mutex that is given back

mask_digit : (m k : ℕ) → m < 16 → k < 16 → bit_at (bit_not w16 (2 ^ m)) k ≡ 1 - bit_at (2 ^ m) k
mask_digit m k h l = bit_at_not w16 (2 ^ m) k (pow_below m 16 h) l

freed_digit : (d m k : ℕ) → m < 16 → k < 16 → bit_at (without 16 d (2 ^ m)) k ≡ min (bit_at d k) (1 - bit_at (2 ^ m) k)
freed_digit d m k h l = bit_at_and d (2 ^ 16 - 1 - 2 ^ m) k ∙ ap (λ z. min (bit_at d k) z) (mask_digit m k h l)

freed_here : (d m : ℕ) → m < 16 → false ≡ is_in (without 16 d (2 ^ m)) m
freed_here d m h =
    let e : bit_at (without 16 d (2 ^ m)) m ≡ 0 = omega (arith, freed_digit d m m h h, bit_at-pow_same m) in
    ap (λ z. z == 1) (sym e) ∙ sym (has_digit (without 16 d (2 ^ m)) m)

freed_there : (d m k : ℕ) → m < 16 → k < 16 → k ≢ m → is_in d k ≡ is_in (without 16 d (2 ^ m)) k
freed_there d m k h l ne =
    let e : bit_at d k ≡ bit_at (without 16 d (2 ^ m)) k =
    omega (arith, freed_digit d m k h l, bit_at-pow_other m k ne, bit_at-lt d k) in
    has_digit d k ∙ ap (λ z. z == 1) e ∙ sym (has_digit (without 16 d (2 ^ m)) k)

pub less : (n d m : ℕ) → n ≤ 16 → m < n → first_mutexes n (without 16 d (2 ^ m)) ≡ slice_set (first_mutexes n d) m false
less n d m most h = by_digits _ n (without 16 d (2 ^ m)) (set_length n d m false) (λ k l. by_place k l (ℕ_discrete k m))
  where
    by_place : (k : ℕ) → k < n → Dec (k ≡ m) → get_or (slice_set (first_mutexes n d) m false) k false ≡ is_in (without 16 d (2 ^ m)) k
    by_place k l (yes e) =
        ap (λ z. get_or (slice_set (first_mutexes n d) m false) z false) e
        ∙ get_or-set_same (first_mutexes n d) m false false (let q = length_first n d in omega (arith, q, h))
        ∙ freed_here d m (omega (arith, h, most)) ∙ ap (λ z. is_in (without 16 d (2 ^ m)) z) (sym e)
    by_place k l (no ne) =
        get_or-set_other (first_mutexes n d) m k false false ne ∙ holds_digit n d k l
        ∙ freed_there d m k (omega (arith, h, most)) (omega (arith, l, most)) ne

-- ## Other mutexes, and none

set_past : (xs : List Bool) (m : ℕ) (b : Bool) → length xs ≤ m → slice_set xs m b ≡ xs
set_past [] m b h = refl
set_past (x ∷ xs) zero b h = absurd (omega (arith, h))
set_past (x ∷ xs) (suc m) b h = ap (λ z. x ∷ z) (set_past xs m b (omega (arith, h)))

pub same : (n d m : ℕ) (b : Bool) → n ≤ m → slice_set (first_mutexes n d) m b ≡ first_mutexes n d
same n d m b h = set_past (first_mutexes n d) m b (let e = length_first n d in omega (arith, e, h))

none_in : (k : ℕ) → is_in 0 k ≡ false
none_in k = has_digit 0 k ∙ ap (λ z. z == 1) (bit_at-zero k)

empty_from : {A : Type 0} (xs : List A) (k : ℕ) → map (is_in 0) (range_with_len k (length xs)) ≡ map (λ x. false) xs
empty_from [] k = refl
empty_from (x ∷ xs) k = ap (λ z. z ∷ map (is_in 0) (range_with_len (k + 1) (length xs))) (none_in k) ∙ ap (λ z. false ∷ z) (empty_from xs (k + 1))

pub set_empty : {A : Type 0} (xs : List A) → first_mutexes (length xs) 0 ≡ map (λ x. false) xs
unfolding first_mutexes
set_empty xs = empty_from xs 0
