-- What a text is that is written up to a limit.
use Rattle.std.proofs.Common.{◌≡◌, refl, sym, ap, ◌∙◌, ℕ, ◌+◌, ◌<◌, ◌≤◌, inl, inr, true, false, cond}
use Rattle.std.proofs.Common.{List, [], ◌∷◌, ◌++◌, length, arith, append-nil, append_assoc, length-append}
use Rattle.std.specs.Prelude.{nat_lt}
use Rattle.std.proofs.lemmas.Bool.{cases_lt}
use Rattle.std.proofs.lemmas.Bool.Decides.{nat_tests}
use Rattle.certificate_words.specs.Words.{Word, Line, word_text, words_onto, line_onto, lines_text}
use Rattle.certificate_texts.specs.reading.Cuts.{with_line_to, with_lines_to}

-- what stands behind a line
words_onto-text : (w : Word) (ws : List Word) (text : List ℕ) → words_onto w ws text ≡ words_onto w ws [] ++ text
words_onto-text w [] text = sym (append_assoc (word_text w) (10 ∷ []) text)
words_onto-text w (v ∷ ws) text =
    ap (λ t. word_text w ++ (32 ∷ t)) (words_onto-text v ws text)
    ∙ sym (append_assoc (word_text w) (32 ∷ words_onto v ws []) text)

pub lines_text-cons : (l : Line) (ls : List Line) → lines_text (l ∷ ls) ≡ line_onto l [] ++ lines_text ls
lines_text-cons l ls = words_onto-text l.first l.rest (lines_text ls)

pub lines_text-append : (ls ms : List Line) → lines_text (ls ++ ms) ≡ lines_text ls ++ lines_text ms
lines_text-append [] ms = refl
lines_text-append (l ∷ ls) ms =
    lines_text-cons l (ls ++ ms) ∙ ap (λ t. line_onto l [] ++ t) (lines_text-append ls ms)
    ∙ sym (append_assoc (line_onto l []) (lines_text ls) (lines_text ms))
    ∙ ap (λ t. t ++ lines_text ms) (sym (lines_text-cons l ls))

is_less : (a b : ℕ) → a < b → nat_lt a b ≡ true
is_less a b less = grind (arith, nat_tests)

is_not_less : (a b : ℕ) → b ≤ a → nat_lt a b ≡ false
is_not_less a b le = grind (arith, nat_tests)

module _ (limit : ℕ) where
  pub stays : (text : List ℕ) (line : Line) → limit < length text → with_line_to limit text line ≡ text
  stays text line less = ap (λ b. cond b text (text ++ line_onto line [])) (is_less limit (length text) less)

  pub grows : (text : List ℕ) (line : Line) → length text ≤ limit
      → with_line_to limit text line ≡ text ++ line_onto line []
  grows text line le = ap (λ b. cond b text (text ++ line_onto line [])) (is_not_less limit (length text) le)

  -- no line is appended to a text that is too long
  pub all_stay : (text : List ℕ) (lines : List Line) → limit < length text → with_lines_to limit text lines ≡ text
  all_stay text [] less = refl
  all_stay text (l ∷ ls) less = ap (λ t. with_lines_to limit t ls) (stays text l less) ∙ all_stay text ls less

  joined : (text : List ℕ) (l : Line) (ls : List Line)
      → (text ++ line_onto l []) ++ lines_text ls ≡ text ++ lines_text (l ∷ ls)
  joined text l ls = append_assoc text (line_onto l []) (lines_text ls) ∙ ap (λ t. text ++ t) (sym (lines_text-cons l ls))

  -- a text that is within the limit is the whole
  pub whole : (text : List ℕ) (lines : List Line) → length (with_lines_to limit text lines) ≤ limit
      → with_lines_to limit text lines ≡ text ++ lines_text lines
  whole text [] le = sym (append-nil text)
  whole text (l ∷ ls) le = elim (cases_lt limit (length text)) [
    | inl less ↦
        absurd (let same : length (with_lines_to limit text (l ∷ ls)) ≡ length text = ap length (all_stay text (l ∷ ls) less) in
        omega (arith, le, less, same))
    | inr fits ↦
        let more : with_lines_to limit text (l ∷ ls) ≡ with_lines_to limit (text ++ line_onto l []) ls =
        ap (λ t. with_lines_to limit t ls) (grows text l fits) in
        let size = ap length more in
        more ∙ whole (text ++ line_onto l []) ls (omega (arith, le, size)) ∙ joined text l ls
  ]

  -- and one that is longer is not longer than the whole
  pub too_long : (text : List ℕ) (lines : List Line) → limit < length (with_lines_to limit text lines)
      → limit < length (text ++ lines_text lines)
  too_long text [] less = let same = ap length (append-nil text) in omega (arith, less, same)
  too_long text (l ∷ ls) less = elim (cases_lt limit (length text)) [
    | inl before ↦ (let size = length-append text (lines_text (l ∷ ls)) in omega (arith, before, size))
    | inr fits ↦
        let more : with_lines_to limit text (l ∷ ls) ≡ with_lines_to limit (text ++ line_onto l []) ls =
        ap (λ t. with_lines_to limit t ls) (grows text l fits) in
        let size = ap length more in
        let long = too_long (text ++ line_onto l []) ls (omega (arith, less, size)) in
        let same = ap length (joined text l ls) in
        omega (arith, long, same)
  ]

  -- where the whole is within the limit, all lines are there
  pub fits : (text : List ℕ) (lines : List Line) → length (text ++ lines_text lines) ≤ limit
      → with_lines_to limit text lines ≡ text ++ lines_text lines
  fits text lines le = elim (cases_lt limit (length (with_lines_to limit text lines))) [
    | inl less ↦ absurd (let long = too_long text lines less in omega (arith, le, long))
    | inr within ↦ whole text lines within
  ]

  -- lines that were written by themselves
  pub block : (text kept : List ℕ) (lines : List Line) → kept ≡ with_lines_to limit [] lines
      → length text + length kept ≤ limit → with_lines_to limit text lines ≡ text ++ kept
  block text kept lines is le =
      let size = ap length is in
      let all : kept ≡ lines_text lines = is ∙ whole [] lines (omega (arith, le, size)) in
      let sum = length-append text kept in
      let same = ap (λ t. length (text ++ t)) all in
      fits text lines (omega (arith, le, sum, same)) ∙ ap (λ t. text ++ t) (sym all)
