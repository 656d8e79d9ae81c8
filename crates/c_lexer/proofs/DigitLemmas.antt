-- The value of digits: more digits never make it less.
use Rattle.std.proofs.Common.{◌≡◌, ℕ, ◌+◌, ◌*◌, ◌<◌, ◌≤◌, List, [], ◌∷◌, length, get_or, take, drop, fold, sym, ap, ◌∙◌, arith}
use Rattle.std.proofs.Math.Nat.{mul-le-mul_left}
use Rattle.std.proofs.lemmas.List.{take-append-drop}
use Rattle.std.proofs.lemmas.List.Sums.{fold-append, fold_more}
use Rattle.tm_terms.specs.Lexis.{digit_value, value_in}

pub value_grows : (base v : ℕ) (digits : List ℕ) → 1 ≤ base → v ≤ fold (λ v b. v * base + digit_value b) v digits
value_grows base v [] h = omega arith
value_grows base v (d ∷ digits) h =
    let more : v * 1 ≤ v * base = mul-le-mul_left v h in
    let rest = value_grows base (v * base + digit_value d) digits h in
    omega arith

pub value_of_front : (base : ℕ) (digits : List ℕ) (i : ℕ) → 1 ≤ base → value_in base (take i digits) ≤ value_in base digits
value_of_front base digits i h =
    let parts : value_in base digits ≡ fold (λ v b. v * base + digit_value b) (value_in base (take i digits)) (drop i digits) =
    ap (value_in base) (sym (take-append-drop i digits)) ∙ fold-append (λ v b. v * base + digit_value b) 0 (take i digits) (drop i digits) in
    let grows = value_grows base (value_in base (take i digits)) (drop i digits) h in
    omega arith

-- one digit more, where there is one
pub value_more : (base : ℕ) (digits : List ℕ) (i d : ℕ) → i < length digits → value_in base (take (i + 1) digits) ≡ value_in base (take i digits) * base + digit_value (get_or digits i d)
value_more base digits i d h = fold_more (λ v b. v * base + digit_value b) 0 digits i d h
