-- Where no lengths are left.
use Rattle.std.proofs.Common.{◌≡◌, refl, ap, sym, ◌∙◌, ℕ, List, [], ◌∷◌, take, drop, length, arith}
use Rattle.std.proofs.Math.Seq.{take-nil, drop-nil}

-- a list that is the same without its first is empty
pub no_first : {A : Type 0} (xs : List A) → xs ≡ drop 1 xs → xs ≡ []
no_first [] e = refl
no_first (x ∷ xs) e = absurd (omega (arith, ap length e))

pub takes_none : {A : Type 0} (xs : List A) (j k : ℕ) → xs ≡ [] → take j xs ≡ take k xs
takes_none xs j k e = ap (take j) e ∙ take-nil j ∙ sym (take-nil k) ∙ sym (ap (take k) e)

pub drops_none : {A : Type 0} (xs : List A) (j k : ℕ) → xs ≡ [] → drop j xs ≡ drop k xs
drops_none xs j k e = ap (drop j) e ∙ drop-nil j ∙ sym (drop-nil k) ∙ sym (ap (drop k) e)
