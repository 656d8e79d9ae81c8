-- The first line of a text, and the lines behind it.
use Rattle.std.proofs.Common.{◌≡◌, ◌<◌, ◌+◌, ℕ, suc, Bool, true, false, not, cond, List, [], ◌∷◌, length, take, drop, refl, ap, sym, ◌∙◌, arith, one-add}
use Rattle.std.proofs.Math.Seq.{take-length}
use Rattle.std.specs.Prelude.{if◌then◌else◌, ◌==◌}
use Rattle.std.specs.List.{prefix_len}
use Rattle.tm_terms.specs.Splices.{is_in_line}
use Rattle.source_marks.specs.Marks.{begun_by, lines_of}

last_step : (ends : Bool) (b : ℕ) (text : List ℕ) → cond (not ends) (1 + prefix_len is_in_line text) 0 ≡ 1 + length text
    → (prefix_len is_in_line text ≡ length text → lines_of text ≡ text ∷ [])
    → (if ends then [] ∷ lines_of text else begun_by b (lines_of text)) ≡ (b ∷ text) ∷ []
last_step true b text e rest = absurd (omega arith)
last_step false b text e rest = ap (begun_by b) (rest (omega arith))

-- no byte ends a line
pub last_line : (text : List ℕ) → prefix_len is_in_line text ≡ length text → lines_of text ≡ text ∷ []
last_line [] e = refl
last_line (b ∷ text) e = last_step (b == 10) b text (omega arith) (last_line text)

more_step : (ends : Bool) (b : ℕ) (text : List ℕ) (n : ℕ)
    → cond (not ends) (1 + n) 0 < 1 + length text
    → (n < length text → lines_of text ≡ take n text ∷ lines_of (drop (suc n) text))
    → (if ends then [] ∷ lines_of text else begun_by b (lines_of text))
    ≡ take (cond (not ends) (1 + n) 0) (b ∷ text) ∷ lines_of (drop (suc (cond (not ends) (1 + n) 0)) (b ∷ text))
more_step true b text n few rest = refl
more_step false b text n few rest = simp one-add (ap (begun_by b) (rest (omega arith)))

-- a byte ends the first line
pub more_lines : (text : List ℕ) → prefix_len is_in_line text < length text
    → lines_of text ≡ take (prefix_len is_in_line text) text ∷ lines_of (drop (suc (prefix_len is_in_line text)) text)
more_lines [] few = absurd (omega arith)
more_lines (b ∷ text) few = more_step (b == 10) b text (prefix_len is_in_line text) (omega arith) (more_lines text)

pub is_last : (text : List ℕ) (n : ℕ) → n ≡ prefix_len is_in_line text → n ≡ length text → lines_of text ≡ take n text ∷ []
is_last text n is end =
    last_line text (sym is ∙ end) ∙ ap (λ line. line ∷ []) (sym (take-length text) ∙ ap (λ m. take m text) (sym end))

pub is_more : (text rest : List ℕ) (n : ℕ) → n ≡ prefix_len is_in_line text → n < length text → rest ≡ drop (n + 1) text
    → lines_of text ≡ take n text ∷ lines_of rest
is_more text rest n is few behind =
    let there : prefix_len is_in_line text < length text = omega arith in
    let one : n + 1 ≡ suc n = omega arith in
    more_lines text there ∙ ap (λ m. take m text ∷ lines_of (drop (suc m) text)) (sym is)
    ∙ ap (λ r. take n text ∷ lines_of r) (sym (behind ∙ ap (λ k. drop k text) one))
