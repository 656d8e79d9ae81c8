-- Steps along a text, byte by byte.
use Rattle.std.proofs.Common.{◌≡◌, ◌<◌, ◌+◌, ◌-◌, ◌∙◌, ℕ, zero, suc, List, [], ◌∷◌, length, get_or, drop, add-one, drop-cons}
use Rattle.std.proofs.Common.{arith, true, false, refl, sym, ap, Bool, cond, eqb, ◌&&◌, ne_eqb, eq-eqb, Some}
use Rattle.std.proofs.lemmas.List.{get_or-drop, at_drop_more}
use Rattle.std.specs.Prelude.{◌==◌}
use Rattle.tm_terms.specs.Spelling.{next_place}
use Rattle.tm_terms.specs.declared.places.Place.{Place}
use Rattle.refusal_hints.specs.Places.{is_same, offset_from}
use Rattle.refusal_hints.specs.Words.{comment_length, literal_length, piece_length, with_word, words_behind, words_of}

pub drop_next : (text : List ℕ) (i : ℕ) → i < length text → drop i text ≡ get_or text i 0 ∷ drop (i + 1) text
drop_next text i h = rw (add-one, drop-cons text i 0)

-- ## Comments and literals

pub comment_more : (text : List ℕ) (i : ℕ) → i < length text
    → comment_length (drop i text)
    ≡ cond (eqb (get_or text i 0) 42 && eqb (get_or text (i + 1) 0) 47) 2 (1 + comment_length (drop (i + 1) text))
comment_more text i h =
    let rest = drop (i + 1) text in
    let behind : get_or rest 0 0 ≡ get_or text (i + 1) 0 =
    get_or-drop (i + 1) text 0 0 ∙ ap (λ n. get_or text n 0) (omega arith) in
    at_drop_more comment_length text i 0 h
    ∙ ap (λ b. cond (eqb (get_or text i 0) 42 && eqb b 47) 2 (1 + comment_length rest)) behind

pub protected_step : (quote : ℕ) (text : List ℕ) (i : ℕ) (was now : Bool) (whole : ℕ) → i < length text → was ≡ true
    → now ≡ false → whole ≡ i + literal_length quote was (drop i text)
    → whole ≡ (i + 1) + literal_length quote now (drop (i + 1) text)
protected_step quote text i was now whole h protected free so_far =
    let e : literal_length quote was (drop i text) ≡ 1 + literal_length quote now (drop (i + 1) text) =
    ap (λ w. literal_length quote w (drop i text)) protected ∙ ap (literal_length quote true) (drop_next text i h)
    ∙ ap (λ w. 1 + literal_length quote w (drop (i + 1) text)) (sym free) in
    omega arith

unprotected : (quote b : ℕ) (text : List ℕ) → (b == quote) ≡ false → (b == 10) ≡ false
    → literal_length quote false (b ∷ text) ≡ 1 + literal_length quote (b == 92) text
unprotected quote b text other in_line = rw (other, in_line) refl

pub plain_step : (quote : ℕ) (text : List ℕ) (i : ℕ) (was now : Bool) (whole : ℕ) → i < length text → was ≡ false
    → (get_or text i 0 ≡ quote → ⊥) → (get_or text i 0 ≡ 10 → ⊥) → now ≡ (get_or text i 0 == 92)
    → whole ≡ i + literal_length quote was (drop i text)
    → whole ≡ (i + 1) + literal_length quote now (drop (i + 1) text)
plain_step quote text i was now whole h free other in_line is so_far =
    let e : literal_length quote was (drop i text) ≡ 1 + literal_length quote now (drop (i + 1) text) =
    ap (λ w. literal_length quote w (drop i text)) free ∙ ap (literal_length quote false) (drop_next text i h)
    ∙ unprotected quote (get_or text i 0) (drop (i + 1) text) (ne_eqb _ _ other) (ne_eqb _ _ in_line)
    ∙ ap (λ w. 1 + literal_length quote w (drop (i + 1) text)) (sym is) in
    omega arith

ended : (quote b : ℕ) (text : List ℕ) → (b == quote) ≡ true → literal_length quote false (b ∷ text) ≡ 1
ended quote b text same = rw same refl

pub quote_step : (quote : ℕ) (text : List ℕ) (i : ℕ) (was : Bool) (whole : ℕ) → i < length text → was ≡ false
    → get_or text i 0 ≡ quote → whole ≡ i + literal_length quote was (drop i text) → i + 1 ≡ whole
quote_step quote text i was whole h free same so_far =
    let e : literal_length quote was (drop i text) ≡ 1 =
    ap (λ w. literal_length quote w (drop i text)) free ∙ ap (literal_length quote false) (drop_next text i h)
    ∙ ended quote (get_or text i 0) (drop (i + 1) text) (eq-eqb _ _ same) in
    omega arith

line_ended : (quote b : ℕ) (text : List ℕ) → (b == quote) ≡ false → (b == 10) ≡ true
    → literal_length quote false (b ∷ text) ≡ 0
line_ended quote b text other ends = rw (other, ends) refl

pub line_step : (quote : ℕ) (text : List ℕ) (i : ℕ) (was : Bool) (whole : ℕ) → i < length text → was ≡ false
    → (get_or text i 0 ≡ quote → ⊥) → get_or text i 0 ≡ 10 → whole ≡ i + literal_length quote was (drop i text)
    → i ≡ whole
line_step quote text i was whole h free other ends so_far =
    let e : literal_length quote was (drop i text) ≡ 0 =
    ap (λ w. literal_length quote w (drop i text)) free ∙ ap (literal_length quote false) (drop_next text i h)
    ∙ line_ended quote (get_or text i 0) (drop (i + 1) text) (ne_eqb _ _ other) (eq-eqb _ _ ends) in
    omega arith

-- ## Places

not_here : (b k : ℕ) (at place : Place) (text : List ℕ) → is_same at place ≡ false
    → offset_from k at place (b ∷ text) ≡ offset_from (k + 1) (next_place at b) place text
not_here b k at place text other = rw other refl

here : (b k : ℕ) (at place : Place) (text : List ℕ) → is_same at place ≡ true
    → offset_from k at place (b ∷ text) ≡ Some k
here b k at place text same = rw same refl

pub offset_more : (text : List ℕ) (i : ℕ) (at place : Place) → i < length text → is_same at place ≡ false
    → offset_from i at place (drop i text)
    ≡ offset_from (i + 1) (next_place at (get_or text i 0)) place (drop (i + 1) text)
offset_more text i at place h other =
    ap (offset_from i at place) (drop_next text i h) ∙ not_here (get_or text i 0) i at place (drop (i + 1) text) other

pub offset_here : (text : List ℕ) (i : ℕ) (at place : Place) → i < length text → is_same at place ≡ true
    → offset_from i at place (drop i text) ≡ Some i
offset_here text i at place h same =
    ap (offset_from i at place) (drop_next text i h) ∙ here (get_or text i 0) i at place (drop (i + 1) text) same

-- ## Words

-- words behind so many bytes are those of the rest
passed : (k : ℕ) (text : List ℕ) → words_behind k text ≡ words_of (drop k text)
passed zero text = refl
passed (suc k) [] = refl
passed (suc k) (b ∷ text) = passed k text

-- the first piece, and the words behind it
pub first_words : (text : List ℕ) → 0 < length text → 0 < piece_length text
    → words_of text ≡ with_word text (words_of (drop (piece_length text) text))
first_words [] some long = absurd (omega arith)
first_words (b ∷ text) some long =
    let one : piece_length (b ∷ text) ≡ suc (piece_length (b ∷ text) - 1) = omega arith in
    ap (with_word (b ∷ text)) (passed (piece_length (b ∷ text) - 1) text
    ∙ ap (λ n. words_of (drop n (b ∷ text))) (sym one))
