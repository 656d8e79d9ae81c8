-- Digits that cannot be read have too great a value.
use Rattle.std.proofs.Common.{◌≡◌, ℕ, ◌<◌, ◌^◌, ◌&&◌, Bool, true, false, List, length, cond, nat_le, nat_lt, Some, None, Result, Err, inl, inr, refl, ap, sym, subst, arith, rules}
use Rattle.std.specs.Char.{is_ascii_digit}
use Rattle.std.specs.List.{list_all}
use Rattle.std.specs.Str.Parse.{ParsesUnsigned, digits_value}
use Rattle.std.proofs.lemmas.Bool.Decides.{leb_tells, nat_tests}
use Rattle.std.proofs.lemmas.Str.Parse.{IsNumeralModel, numerals_by_value, parse_digits}
use Rattle.cmd_words.specs.Numbers.{greatest_number, is_digits, up_to_greatest}

own : IsNumeralModel (λ ds. list_all is_ascii_digit ds ≡ true) (digits_value 10)
own = numerals_by_value (λ ds. list_all is_ascii_digit ds ≡ true) (search rules)

both : (a b : Bool) → (a && b) ≡ true → (a ≡ true) × (b ≡ true)
both true true h = (refl, refl)
both true false h = (refl, h)
both false b h = absurd (let e : false ≡ true = h in cc)

not_empty : (n : ℕ) → nat_lt 0 n ≡ true → 0 < n
not_empty n h = grind (arith, nat_tests)

some_digits : (text : List ℕ) → is_digits text ≡ true → (0 < length text) × (list_all is_ascii_digit text ≡ true)
some_digits text h =
    let parts = both (nat_lt 0 (length text) && nat_le (length text) 10) (list_all is_ascii_digit text) h in
    (not_empty (length text) (both (nat_lt 0 (length text)) (nat_le (length text) 10) parts.0).0, parts.1)

beyond : (value : ℕ) → greatest_number < value → up_to_greatest value ≡ None
beyond value h = elim (leb_tells value greatest_number) [
  | inl t ↦ absurd (omega arith)
  | inr t ↦ ap (λ b. cond b (Some value) None) t.0
]

large : (value : ℕ) → (value < 2 ^ 32 → ⊥) → greatest_number < value
large value h = elim (leb_tells value greatest_number) [
  | inl t ↦ absurd (h (omega arith))
  | inr t ↦ t.1
]

pub not_read : {E : Type 0} (text : List ℕ) (r : Result ℕ E) (e : E) → is_digits text ≡ true → ParsesUnsigned 32 10 text r
    → r ≡ Err e → None ≡ up_to_greatest (digits_value 10 text)
not_read {E} text r e digits parsed is =
    let P : Result ℕ E → Type 0 = λ r. ParsesUnsigned 32 10 text r in
    let some = some_digits text digits in
    let fails : ((0 < length text) × (digits_value 10 text < 2 ^ 32)) → ⊥ =
    parse_digits own {E = E} 32 text (Err e) (subst P is parsed) some.1 in
    sym (beyond (digits_value 10 text) (large (digits_value 10 text) (λ small. fails (some.0, small))))
