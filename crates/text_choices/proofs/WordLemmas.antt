-- Words of a text, one after the other.
use Rattle.std.proofs.Common.{◌≡◌, refl, ap, ◌∙◌, ℕ, suc, ◌+◌, ◌<◌, Bool, true, false, cond, List, [], ◌∷◌, length, take, drop, arith}
use Rattle.std.specs.Prelude.{not, ◌==◌, bytes_eq}
use Rattle.std.specs.List.{list_any, prefix_len}
use Rattle.std.proofs.lemmas.List.{drop-drop, length-drop}
use Rattle.text_choices.specs.reading.Words.{is_no_blank, onto, words_of}

one_byte_more : (c n : ℕ) (cs : List ℕ) → (c ∷ take n cs) ∷ words_of (drop (n + 1) cs) ≡ take (1 + n) (c ∷ cs) ∷ words_of (drop (1 + n + 1) (c ∷ cs))
one_byte_more c n cs =
    let one : suc n ≡ 1 + n = omega arith in
    let two : suc (n + 1) ≡ 1 + n + 1 = omega arith in
    ap (λ k. take k (c ∷ cs) ∷ words_of (drop (n + 1) cs)) one
    ∙ ap (λ k. take (1 + n) (c ∷ cs) ∷ words_of (drop k (c ∷ cs))) two

-- the first word, and those behind the blank
first_word : (text : List ℕ) → 0 < length text
    → words_of text ≡ take (prefix_len is_no_blank text) text ∷ words_of (drop (prefix_len is_no_blank text + 1) text)
unfolding words_of
first_word [] h = absurd (omega arith)
first_word (c ∷ []) h = by_byte (c == 32)
  where
    by_byte : (b : Bool)
        → cond b ([] ∷ []) ((c ∷ []) ∷ []) ≡ take (cond (not b) 1 0) (c ∷ []) ∷ words_of (drop (cond (not b) 1 0 + 1) (c ∷ []))
    by_byte true = refl
    by_byte false = refl
first_word (c ∷ d ∷ cs) h = by_byte (c == 32) (first_word (d ∷ cs) (omega arith))
  where
    n : ℕ
    n = prefix_len is_no_blank (d ∷ cs)

    by_byte : (b : Bool) → words_of (d ∷ cs) ≡ take n (d ∷ cs) ∷ words_of (drop (n + 1) (d ∷ cs))
        → cond b ([] ∷ words_of (d ∷ cs)) (onto c (words_of (d ∷ cs)))
        ≡ take (cond (not b) (1 + n) 0) (c ∷ d ∷ cs) ∷ words_of (drop (cond (not b) (1 + n) 0 + 1) (c ∷ d ∷ cs))
    by_byte true later = refl
    by_byte false later = ap (onto c) later ∙ one_byte_more c n (d ∷ cs)

-- a text's words are none behind its end
pub no_words : (name : List ℕ) → list_any (bytes_eq name) (words_of []) ≡ false
unfolding words_of
no_words name = refl

-- the word at a place is passed
pub passed : (name text rest : List ℕ) (at n : ℕ) → at < length text → rest ≡ drop at text → n ≡ prefix_len is_no_blank rest
    → bytes_eq name (take n rest) ≡ false
    → list_any (bytes_eq name) (words_of (drop at text)) ≡ list_any (bytes_eq name) (words_of (drop (at + (n + 1)) text))
passed name text rest at n h is size other =
    let opened = ap (list_any (bytes_eq name)) (first_word rest (omega (arith, ap length is, length-drop at text))) in
    rw (← is) (opened ∙ rw (← size) (rw other (ap (λ ys. list_any (bytes_eq name) (words_of ys)) (ap (drop (n + 1)) is ∙ drop-drop (n + 1) at text))))

-- the word at a place is the one
pub met : (name text rest : List ℕ) (at n : ℕ) → at < length text → rest ≡ drop at text → n ≡ prefix_len is_no_blank rest
    → bytes_eq name (take n rest) ≡ true → list_any (bytes_eq name) (words_of (drop at text)) ≡ true
met name text rest at n h is size one =
    let opened = ap (list_any (bytes_eq name)) (first_word rest (omega (arith, ap length is, length-drop at text))) in
    rw (← is) (opened ∙ rw (← size) (rw one refl))
