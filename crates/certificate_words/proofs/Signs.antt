-- Texts with and without a sign.
use Rattle.std.proofs.Common.{◌≡◌, ℕ, suc, ◌<◌, ◌≤◌, ◌^◌, ℤ, pos, List, [], ◌∷◌, length, get_or, ap, sym, subst, ◌∙◌, arith}
use Rattle.std.specs.Prelude.{decimal, negsuc, take, drop, Option, Some, None, MatchOption, ◌-◌}
use Rattle.std.proofs.lemmas.List.{take_all}
use Rattle.std.specs.Str.Parse.{IsNumeral}
use Rattle.std.proofs.lemmas.Fmt.{decimal_is_IsNumeral}
use Rattle.std.proofs.lemmas.Str.Parse.{tells_digits}
use Rattle.certificate_words.specs.reading.Digits.{IsNumber}

first_is_digit : (ds : List ℕ) → IsNumeral 10 ds → (b : ℕ) (bs : List ℕ) → ds ≡ b ∷ bs → 48 ≤ b
first_is_digit [] h b bs e = absurd (cc)
first_is_digit (d ∷ ds) h b bs e =
    let p = (tells_digits.parts d ds h.1).0 in let f : d ≡ b = cc in omega (arith, f, p)

-- no digit is a sign
pub unsigned : (n : ℕ) → n < 2 ^ 64 → (bs : List ℕ) → decimal n ≡ 45 ∷ bs → ⊥
unsigned n lt bs e = let h = first_is_digit (decimal n) (decimal_is_IsNumeral n lt).0 45 bs e in omega (arith, h)

some_digit : (n : ℕ) → n < 2 ^ 64 → [] ≡ decimal n → ⊥
some_digit n lt e =
    let h = (decimal_is_IsNumeral n lt).0.0 in let none : length (decimal n) ≡ 0 = ap length (sym e) in
    omega (arith, h, none)

pub none_in_empty : (z : ℤ) → IsNumber [] z → ⊥
none_in_empty (pos n) h = some_digit n h.0 h.1
none_in_empty (negsuc n) h = let e = h.1 in absurd (cc)

behind : (a b : List ℕ) → 45 ∷ a ≡ 45 ∷ b → a ≡ b
behind a b e = cc

pub no_negative : (rest : List ℕ) → ((n : ℕ) → suc n < 2 ^ 64 → rest ≡ decimal (suc n) → ⊥) → (z : ℤ)
    → IsNumber (45 ∷ rest) z → ⊥
no_negative rest h (pos n) k = unsigned n k.0 rest (sym k.1)
no_negative rest h (negsuc n) k = h n k.0 (behind rest (decimal (suc n)) k.1)

pub no_positive : (b : ℕ) (bs : List ℕ) → (b ≡ 45 → ⊥) → ((n : ℕ) → n < 2 ^ 64 → b ∷ bs ≡ decimal n → ⊥) → (z : ℤ)
    → IsNumber (b ∷ bs) z → ⊥
no_positive b bs other h (pos n) k = h n k.0 k.1
no_positive b bs other h (negsuc n) k = let e = k.1 in let f : b ≡ 45 = cc in other f

pub none_in_short : (bytes : List ℕ) → length bytes < 1 → (z : ℤ) → IsNumber bytes z → ⊥
none_in_short [] h z k = none_in_empty z k
none_in_short (b ∷ bs) h z k = absurd (omega (arith, h))

pub signed : (bytes : List ℕ) (r : Option ℤ) → get_or bytes 0 0 ≡ 45
    → MatchOption r ((n : ℕ) → suc n < 2 ^ 64 → take (length bytes - 1) (drop 1 bytes) ≡ decimal (suc n) → ⊥)
    (λ z. IsNumber (45 ∷ take (length bytes - 1) (drop 1 bytes)) z)
    → MatchOption r ((z : ℤ) → IsNumber bytes z → ⊥) (λ z. IsNumber bytes z)
signed [] r e h = absurd (omega (arith, e))
signed (b ∷ bs) r e h = by_answer r h
  where
    whole : take (length (b ∷ bs) - 1) (drop 1 (b ∷ bs)) ≡ bs
    whole = take_all (length (b ∷ bs) - 1) bs (omega arith)

    all : 45 ∷ take (length (b ∷ bs) - 1) (drop 1 (b ∷ bs)) ≡ b ∷ bs
    all = ap (λ z. 45 ∷ z) whole ∙ ap (λ z. z ∷ bs) (sym e)

    by_answer : (r : Option ℤ)
        → MatchOption r ((n : ℕ) → suc n < 2 ^ 64 → take (length (b ∷ bs) - 1) (drop 1 (b ∷ bs)) ≡ decimal (suc n) → ⊥)
        (λ z. IsNumber (45 ∷ take (length (b ∷ bs) - 1) (drop 1 (b ∷ bs))) z)
        → MatchOption r ((z : ℤ) → IsNumber (b ∷ bs) z → ⊥) (λ z. IsNumber (b ∷ bs) z)
    by_answer None k = λ z n.
        no_negative (take (length (b ∷ bs) - 1) (drop 1 (b ∷ bs))) k z (subst (λ t. IsNumber t z) (sym all) n)
    by_answer (Some z) k = subst (λ t. IsNumber t z) all k
