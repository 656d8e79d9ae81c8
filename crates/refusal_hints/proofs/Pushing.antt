-- Words, pushed one after another.
use Rattle.std.proofs.Common.{◌≡◌, ◌<◌, ◌∙◌, ℕ, List, [], ◌∷◌, ◌++◌, append_assoc, length, take, drop, true, false, refl, sym, ap, arith}
use Rattle.refusal_hints.specs.Words.{is_gap, piece_length, with_word, words_of}
use Rattle.refusal_hints.proofs.Steps.{first_words}

no_gap : (text : List ℕ) (words : List (List ℕ)) → is_gap text ≡ false
    → with_word text words ≡ take (piece_length text) text ∷ words
no_gap text words e = rw e refl

a_gap : (text : List ℕ) (words : List (List ℕ)) → is_gap text ≡ true → with_word text words ≡ words
a_gap text words e = rw e refl

-- the piece is a word
pub word_step : (all done done' : List (List ℕ)) (text rest : List ℕ) (count : ℕ) → 0 < length text → 0 < count
    → count ≡ piece_length text → is_gap text ≡ false → all ≡ done ++ words_of text → done' ≡ done ++ take count text ∷ []
    → rest ≡ drop count text → all ≡ done' ++ words_of rest
word_step all done done' text rest count some long is word so_far pushed passed =
    let piece : 0 < piece_length text = omega arith in
    so_far ∙ ap (λ ws. done ++ ws) (first_words text some piece)
    ∙ ap (λ ws. done ++ ws) (no_gap text (words_of (drop (piece_length text) text)) word)
    ∙ ap (λ n. done ++ take n text ∷ words_of (drop n text)) (sym is)
    ∙ sym (append_assoc done (take count text ∷ []) (words_of (drop count text)))
    ∙ ap (λ d. d ++ words_of (drop count text)) (sym pushed) ∙ ap (λ r. done' ++ words_of r) (sym passed)

-- the piece is no word
pub gap_step : (all done : List (List ℕ)) (text rest : List ℕ) (count : ℕ) → 0 < length text → 0 < count
    → count ≡ piece_length text → is_gap text ≡ true → all ≡ done ++ words_of text → rest ≡ drop count text
    → all ≡ done ++ words_of rest
gap_step all done text rest count some long is gap so_far passed =
    let piece : 0 < piece_length text = omega arith in
    so_far ∙ ap (λ ws. done ++ ws) (first_words text some piece)
    ∙ ap (λ ws. done ++ ws) (a_gap text (words_of (drop (piece_length text) text)) gap)
    ∙ ap (λ n. done ++ words_of (drop n text)) (sym is) ∙ ap (λ r. done ++ words_of r) (sym passed)
