-- The last words of a list of references.
use Rattle.std.proofs.Common.{◌≡◌, ◌<◌, ◌≤◌, ◌-◌, ◌∙◌, ◌&&◌, ℕ, zero, suc, Bool, true, false, List, [], ◌∷◌, length, take, drop, refl, sym, ap, arith}
use Rattle.std.proofs.Math.Seq.{take-length}
use Rattle.std.proofs.lemmas.Bool.{le-leb}
use Rattle.std.proofs.lemmas.List.{drop-map, length-drop, length-map}
use Rattle.std.specs.Borrow.{Bor}
use Rattle.std.specs.Prelude.{nat_le}
use Rattle.refusal_hints.specs.Patterns.{fits, fits_last}
use Rattle.refusal_hints.specs.reading.Seen.{words_seen}

whole : (context pattern words : List (List ℕ)) (n m : ℕ) → length pattern ≡ m → length words ≡ n → m ≤ n
    → fits_last context pattern words ≡ fits context pattern (drop (n - m) words)
whole context pattern words n m p w few =
    let test : nat_le (length pattern) (length words) ≡ true = le-leb _ _ (omega arith) in
    let count : length words - length pattern ≡ n - m = omega arith in
    ap (λ b. b && fits context pattern (drop (length words - length pattern) words)) test
    ∙ ap (λ k. fits context pattern (drop k words)) count

-- what a slice from an index on has
rest : (words : List (Bor (List ℕ))) (i : ℕ) → take (length words - i) (drop i words) ≡ drop i words
rest words i =
    ap (λ k. take k (drop i words)) (sym (length-drop i words)) ∙ take-length (drop i words)

pub last_fits : (context : List (List ℕ)) (pattern words : List (Bor (List ℕ))) (fitting : Bool)
    → length pattern ≤ length words
    → fitting ≡ fits context (words_seen pattern) (words_seen
    (take (length words - (length words - length pattern)) (drop (length words - length pattern) words)))
    → fitting ≡ fits_last context (words_seen pattern) (words_seen words)
last_fits context pattern words fitting few is =
    is ∙ ap (λ ws. fits context (words_seen pattern) (words_seen ws)) (rest words (length words - length pattern))
    ∙ ap (fits context (words_seen pattern)) (sym (drop-map (λ w. w.now) (length words - length pattern) words))
    ∙ sym (whole context (words_seen pattern) (words_seen words) (length words) (length pattern)
    (length-map pattern (λ w. w.now)) (length-map words (λ w. w.now)) few)

none : (context : List (List ℕ)) (pattern : List (Bor (List ℕ))) (i : ℕ) → i < length pattern
    → fits context (words_seen (drop i pattern)) [] ≡ false
none context [] i h = absurd (omega arith)
none context (p ∷ pattern) zero h = refl
none context (p ∷ pattern) (suc i) h = none context pattern i (omega arith)

past : (words : List (Bor (List ℕ))) (i : ℕ) → length words ≤ i → drop i words ≡ []
past [] zero few = refl
past [] (suc i) few = refl
past (w ∷ words) zero few = absurd (omega arith)
past (w ∷ words) (suc i) few = past words i (omega arith)

-- no word is left for the pattern
pub ended : (context : List (List ℕ)) (pattern words : List (Bor (List ℕ))) (i : ℕ) → i < length pattern
    → length words ≤ i → fits context (words_seen (drop i pattern)) (words_seen (drop i words)) ≡ false
ended context pattern words i h few =
    ap (λ ws. fits context (words_seen (drop i pattern)) (words_seen ws)) (past words i few) ∙ none context pattern i h
