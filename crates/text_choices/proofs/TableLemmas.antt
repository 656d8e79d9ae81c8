-- Which names stand in a table.
use Rattle.std.proofs.Common.{◌≡◌, ℕ, zero, suc, ◌<◌, Bool, true, false, ◌||◌, List, [], ◌∷◌, length, get_or, refl, sym, ◌∙◌, arith}
use Rattle.std.specs.Prelude.{◌↔◌, Contains, IsTrue, bytes_eq}
use Rattle.std.specs.List.{list_any}
use Rattle.std.proofs.lemmas.Slice.Eq.{bytes_eq-Decides}

any_contains : (text : List ℕ) (xs : List (List ℕ)) → list_any (bytes_eq text) xs ≡ true → Contains xs text
any_contains text [] h = cc
any_contains text (x ∷ xs) h = by_case (bytes_eq text x) refl h (λ e. any_contains text xs e)
  where
    by_case : (b : Bool) → bytes_eq text x ≡ b → (b || list_any (bytes_eq text) xs) ≡ true → (list_any (bytes_eq text) xs ≡ true → Contains xs text) → Contains (x ∷ xs) text
    by_case true is e rest = (0, omega arith, sym ((bytes_eq-Decides text x).0 is))
    by_case false is e rest = let later = rest e in (suc later.0, omega (arith, later.1), later.2)

or_true : (b : Bool) → (b || true) ≡ true
or_true true = refl
or_true false = refl

contains_any : (text : List ℕ) (xs : List (List ℕ)) (k : ℕ) → k < length xs → get_or xs k text ≡ text → list_any (bytes_eq text) xs ≡ true
contains_any text [] k h is = absurd (omega arith)
contains_any text (x ∷ xs) zero h is = let same : bytes_eq text x ≡ true = (bytes_eq-Decides text x).1 (sym is) in rw same refl
contains_any text (x ∷ xs) (suc k) h is = rw (contains_any text xs k (omega arith) is) (or_true (bytes_eq text x))

pub table_is : (text : List ℕ) (table : List (List ℕ)) (r : Bool) → r ≡ list_any (bytes_eq text) table → IsTrue r ↔ Contains table text
table_is text table r e = (λ h. any_contains text table (sym e ∙ h), λ c. e ∙ contains_any text table c.0 c.1 c.2)
