-- What is written is read.
use Rattle.std.proofs.Common.{◌≡◌, ℕ, zero, suc, ◌⊎◌, inl, inr, ◌<◌, ◌≤◌, ◌^◌, ◌&&◌, true, false, List, [], ◌∷◌, length, get_or, nat_le, nat_lt, Result, Ok, Err, refl, ap, sym, subst, ◌∙◌, arith, rules}
use Rattle.std.specs.Prelude.{decimal, not, ◌==◌}
use Rattle.std.specs.Char.{is_ascii_digit}
use Rattle.std.specs.List.{list_all}
use Rattle.std.specs.Str.{IsUtf8, IsAscii}
use Rattle.std.specs.Str.Parse.{ParsesUnsigned, digits_value}
use Rattle.std.proofs.lemmas.Bool.{cases_lt, and_parts, and_from}
use Rattle.std.proofs.lemmas.Bool.Decides.{nat_tests}
use Rattle.std.proofs.lemmas.Fmt.{digits_decimal, decimal_nonempty, length-decimal-le, first_decimal, decimal_digit, decimal-digits_value, parse-decimal}
use Rattle.std.proofs.lemmas.Str.{IsUtf8-from_ascii}
use Rattle.std.proofs.lemmas.Str.Parse.{IsNumeralModel, numerals_by_value, parse_digits, digit_at}
use Rattle.certificate_words.specs.reading.Digits.{has_digits_alone, begins_plainly, is_plain}

own : IsNumeralModel (λ ds. list_all is_ascii_digit ds ≡ true) (digits_value 10)
own = numerals_by_value (λ ds. list_all is_ascii_digit ds ≡ true) (search rules)

-- ## Digits are UTF-8

past : (text : List ℕ) (i : ℕ) → length text ≤ i → get_or text i 0 ≡ 0
past [] zero g = refl
past [] (suc i) g = refl
past (b ∷ text) zero g = absurd (omega (arith, g))
past (b ∷ text) (suc i) g = past text i (omega (arith, g))

ascii : (text : List ℕ) → list_all is_ascii_digit text ≡ true → IsAscii text
ascii text h = λ i. at i (cases_lt i (length text))
  where
    at : (i : ℕ) → (i < length text) ⊎ (length text ≤ i) → get_or text i 0 < 128
    at i (inl l) = let d = digit_at text i (own.to text h) l in omega (arith, d)
    at i (inr g) = let none : get_or text i 0 ≡ 0 = past text i g in omega (arith, none)

some_of : (n : ℕ) → nat_lt 0 n ≡ true → 0 < n
some_of n h = grind (arith, nat_tests)

is_some_of : (n : ℕ) → 0 < n → nat_lt 0 n ≡ true
is_some_of n h = grind (arith, nat_tests)

is_few_of : (n : ℕ) → n ≤ 20 → nat_le n 20 ≡ true
is_few_of n h = grind (arith, nat_tests)

no_zero : (b : ℕ) → 48 < b → not (b == 48) ≡ true
no_zero b h = grind (arith, nat_tests)

-- ## From a number to its text

plainly : (text : List ℕ) → 0 < length text → (1 < length text → 48 < get_or text 0 0) → begins_plainly text ≡ true
plainly [] h k = absurd (omega (arith, h))
plainly (b ∷ []) h k = refl
plainly (b ∷ c ∷ bs) h k = no_zero b (k (omega arith))

first_of : (n : ℕ) → n < 2 ^ 64 → 1 < length (decimal n) → 48 < get_or (decimal n) 0 0
first_of zero lt h =
    let one : length (decimal 0) ≡ 1 = ap length (decimal_digit 0 (omega arith)) in absurd (omega (arith, h, one))
first_of (suc n) lt h = first_decimal (suc n) (omega arith) lt

pub written_is_plain : (n : ℕ) → n < 2 ^ 64 → is_plain (decimal n) ≡ true
written_is_plain n lt =
    let some : 0 < length (decimal n) = decimal_nonempty n lt in
    let few : length (decimal n) ≤ 20 = length-decimal-le 20 n (omega arith) (omega (arith, lt)) lt in
    let digits = digits_decimal own n lt in
    and_from (has_digits_alone (decimal n)) (begins_plainly (decimal n))
    (and_from (nat_lt 0 (length (decimal n)) && nat_le (length (decimal n)) 20) (list_all is_ascii_digit (decimal n))
    (and_from (nat_lt 0 (length (decimal n))) (nat_le (length (decimal n)) 20) (is_some_of (length (decimal n)) some)
    (is_few_of (length (decimal n)) few)) digits)
    (plainly (decimal n) some (first_of n lt))

pub not_plain : (text : List ℕ) → is_plain text ≡ false → (n : ℕ) → n < 2 ^ 64 → text ≡ decimal n → ⊥
not_plain text h n lt e =
    let clash : true ≡ false = sym (written_is_plain n lt) ∙ (ap is_plain (sym e) ∙ h) in absurd (cc)

pub is_utf8 : (text : List ℕ) → is_plain text ≡ true → IsUtf8 text
is_utf8 text h =
    let alone = (and_parts (has_digits_alone text) (begins_plainly text) h).0 in
    let digits = (and_parts (nat_lt 0 (length text) && nat_le (length text) 20) (list_all is_ascii_digit text) alone).1 in
    IsUtf8-from_ascii text (ascii text digits)

pub not_parsed : {E : Type 0} (text : List ℕ) (r : Result ℕ E) (e : E) → ParsesUnsigned 64 10 text r → r ≡ Err e
    → (n : ℕ) → n < 2 ^ 64 → text ≡ decimal n → ⊥
not_parsed {E} text r e parsed f n lt is =
    let read : r ≡ Ok n = parse-decimal {E = E} 64 n text r lt lt is parsed in
    let clash : Err e ≡ Ok n = sym f ∙ read in absurd (cc)

-- ## From a text to its number

one_digit : (text : List ℕ) → begins_plainly text ≡ true → get_or text 0 0 ≡ 48 → length text ≡ 1
one_digit [] h k = absurd (cc)
one_digit (b ∷ []) h k = refl
one_digit (b ∷ c ∷ bs) h k = absurd (zero_first b h k)
  where
    zero_first : (b : ℕ) → not (b == 48) ≡ true → b ≡ 48 → ⊥
    zero_first b h k = grind (arith, nat_tests)

pub parsed : {E : Type 0} (text : List ℕ) (r : Result ℕ E) (v : ℕ) → is_plain text ≡ true → ParsesUnsigned 64 10 text r
    → r ≡ Ok v → text ≡ decimal v
parsed {E} text r v h parses is =
    let parts = and_parts (has_digits_alone text) (begins_plainly text) h in
    let alone = and_parts (nat_lt 0 (length text) && nat_le (length text) 20) (list_all is_ascii_digit text) parts.0 in
    let counts = and_parts (nat_lt 0 (length text)) (nat_le (length text) 20) alone.0 in
    let P : Result ℕ E → Type 0 = λ r. ParsesUnsigned 64 10 text r in
    let ok = parse_digits own {E = E} 64 text (Ok v) (subst P is parses) alone.1 in
    let some : 0 < length text = some_of (length text) counts.0 in
    let small : digits_value 10 text < 2 ^ 64 = ok.0.1 in
    sym (decimal-digits_value own text alone.1 some (one_digit text parts.1) small) ∙ ap decimal (sym ok.1)
