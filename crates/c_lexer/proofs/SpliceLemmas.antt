-- Splices and the comments of a skipped line, one splice or one byte further.
use Rattle.std.proofs.Common.{◌≡◌, ℕ, zero, suc, ◌+◌, ◌-◌, ◌<◌, Bool, cond, eqb, List, [], ◌∷◌, length, get_or, drop, refl, sym, ap, ◌∙◌, arith}
use Rattle.std.proofs.lemmas.Bool.{ne_eqb}
use Rattle.std.proofs.lemmas.List.{at_drop_more}
use Rattle.tm_terms.specs.Splices.{splice, unspliced, Within, Neither, Quoted, Comment, leaves_open_from}

unspliced_behind : (k : ℕ) (text : List ℕ) → unspliced k text ≡ unspliced 0 (drop k text)
unspliced_behind zero text = refl
unspliced_behind (suc k) [] = refl
unspliced_behind (suc k) (b ∷ text) = unspliced_behind k text

-- behind a splice
pub unspliced_more : (text : List ℕ) (n : ℕ) → n ≡ splice text → 0 < n → unspliced 0 text ≡ unspliced 0 (drop n text)
unspliced_more [] n e some = absurd (omega (arith, e))
unspliced_more (b ∷ text) zero e some = absurd (omega arith)
unspliced_more (b ∷ text) (suc n) e some = by_length (splice (b ∷ text)) (sym e)
  where
    by_length : (m : ℕ) → m ≡ suc n → cond (eqb m 0) (b ∷ text) (unspliced (m - 1) text) ≡ unspliced 0 (drop n text)
    by_length m e =
        ap (λ t. cond t (b ∷ text) (unspliced (m - 1) text)) (ne_eqb m 0 (λ z. absurd (omega (arith, z, e))))
        ∙ ap (λ k. unspliced k text) (omega (arith, e))
        ∙ unspliced_behind n text

skip : (paired : Bool) (k : ℕ) (at : Within) (b : ℕ) (line : List ℕ) → leaves_open_from paired (suc k) at (b ∷ line) ≡ leaves_open_from paired k at line
skip paired k Neither b line = refl
skip paired k (Quoted q) b line = refl
skip paired k Comment b line = refl

-- a byte that is no longer looked at
pub leaves_open_skip : (paired : Bool) (k less : ℕ) (at : Within) (line : List ℕ) (i : ℕ) → k ≡ suc less → i < length line
    → leaves_open_from paired k at (drop i line) ≡ leaves_open_from paired less at (drop (i + 1) line)
leaves_open_skip paired k less at line i e h =
    rw e (at_drop_more (leaves_open_from paired (suc less) at) line i 0 h ∙ skip paired less at (get_or line i 0) (drop (i + 1) line))
