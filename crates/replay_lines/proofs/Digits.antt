-- Digits as text, and what they are read as.
use Rattle.std.proofs.Common.{◌≡◌, ℕ, zero, suc, ◌⊎◌, inl, inr, ◌<◌, ◌≤◌, ◌^◌, ◌&&◌, ℤ, pos, Bool, true, false, List, [], ◌∷◌, length, get_or, nat_le, nat_lt, Some, None, Option, Result, Ok, Err, refl, ap, sym, subst, ◌∙◌, arith, rules}
use Rattle.std.specs.Prelude.{option_map, if◌then◌else◌}
use Rattle.std.specs.Char.{is_ascii_digit}
use Rattle.std.specs.List.{list_all}
use Rattle.std.specs.Str.{IsUtf8, IsAscii}
use Rattle.std.specs.Str.Parse.{ParsesSigned, digits_value}
use Rattle.std.proofs.lemmas.Bool.{cases_lt}
use Rattle.std.proofs.lemmas.Bool.Decides.{nat_tests}
use Rattle.std.proofs.lemmas.Result.{Ok-from_Ok_iff}
use Rattle.std.proofs.lemmas.Str.{IsUtf8-from_ascii}
use Rattle.std.proofs.lemmas.Str.Parse.{IsNumeralModel, numerals_by_value, parse_signed_digits, digits_value_short, digit_at}
use mir.Syntax.{w128}
use Rattle.cmd_words.specs.Numbers.{number_of, is_digits}
use Rattle.replay_lines.specs.Choices.{has_digits_alone, digits_of}

own : IsNumeralModel (λ ds. list_all is_ascii_digit ds ≡ true) (digits_value 10)
own = numerals_by_value (λ ds. list_all is_ascii_digit ds ≡ true) (search rules)

both : (a b : Bool) → (a && b) ≡ true → (a ≡ true) × (b ≡ true)
both true true h = (refl, refl)
both true false h = (refl, h)
both false b h = absurd (let e : false ≡ true = h in cc)

-- ## Digits are UTF-8

past : (text : List ℕ) (i : ℕ) → length text ≤ i → get_or text i 0 ≡ 0
past [] zero g = refl
past [] (suc i) g = refl
past (b ∷ text) zero g = absurd (omega (arith, g))
past (b ∷ text) (suc i) g = past text i (omega (arith, g))

ascii : (text : List ℕ) → list_all is_ascii_digit text ≡ true → IsAscii text
ascii text h = λ i. at i (cases_lt i (length text))
  where
    at : (i : ℕ) → (i < length text) ⊎ (length text ≤ i) → get_or text i 0 < 128
    at i (inl l) = let d = digit_at text i (own.to text h) l in omega (arith, d)
    at i (inr g) = let none : get_or text i 0 ≡ 0 = past text i g in omega (arith, none)

-- what is no UTF-8 is not digits alone
strange : (text : List ℕ) → (IsUtf8 text → ⊥) → (b : Bool) → list_all is_ascii_digit text ≡ b → b ≡ false
strange text h true e = absurd (h (IsUtf8-from_ascii text (ascii text e)))
strange text h false e = refl

and_false : (a b : Bool) → b ≡ false → (a && b) ≡ false
and_false true b e = e
and_false false b e = refl

pub no_number : (text : List ℕ) → (IsUtf8 text → ⊥) → None ≡ number_of text
no_number text h =
    let none : is_digits text ≡ false = and_false (nat_lt 0 (length text) && nat_le (length text) 10) (list_all is_ascii_digit text) (strange text h (list_all is_ascii_digit text) refl) in
    rw none refl

pub no_digits : (text : List ℕ) → (IsUtf8 text → ⊥) → has_digits_alone text ≡ true → ⊥
no_digits text h e =
    let none : has_digits_alone text ≡ false = and_false (nat_lt 0 (length text) && nat_le (length text) 20) (list_all is_ascii_digit text) (strange text h (list_all is_ascii_digit text) refl) in
    let clash : true ≡ false = sym e ∙ none in
    absurd cc

-- ## The value of digits

some_of : (n : ℕ) → nat_lt 0 n ≡ true → 0 < n
some_of n h = grind (arith, nat_tests)

few_of : (n : ℕ) → nat_le n 20 ≡ true → n ≤ 20
few_of n h = grind (arith, nat_tests)

pub digits_read : {E : Type 0} (text : List ℕ) (r : Result ℤ E) → has_digits_alone text ≡ true → ParsesSigned w128 10 text r
    → r ≡ Ok (pos (digits_value 10 text))
digits_read {E} text r h parsed =
    let parts = both (nat_lt 0 (length text) && nat_le (length text) 20) (list_all is_ascii_digit text) h in
    let counts = both (nat_lt 0 (length text)) (nat_le (length text) 20) parts.0 in
    let short : digits_value 10 text < 10 ^ 20 = digits_value_short own text 20 parts.1 (few_of (length text) counts.1) in
    let wide : 10 ^ 20 ≤ 2 ^ 127 = omega arith in
    Ok-from_Ok_iff r _ _ (parse_signed_digits own {E = E} w128 text r parsed parts.1) (some_of (length text) counts.0, omega (arith, short, wide))

-- so they are read
pub no_error : {E : Type 0} (bytes text : List ℕ) (r : Result ℤ E) (e : E) → has_digits_alone bytes ≡ true → text ≡ bytes → ParsesSigned w128 10 text r
    → r ≡ Err e → ⊥
no_error bytes text r e h k parsed f =
    let read = digits_read text r (ap has_digits_alone k ∙ h) parsed in
    let clash : Err e ≡ Ok (pos (digits_value 10 text)) = sym f ∙ read in
    absurd cc
