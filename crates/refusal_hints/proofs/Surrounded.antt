-- The words round a place.
use Rattle.std.proofs.Common.{◌≡◌, ◌-◌, ◌∙◌, ℕ, List, [], ◌∷◌, ◌++◌, length, take, drop, refl, sym, ap, Some}
use Rattle.std.proofs.Math.Seq.{take-length}
use Rattle.std.proofs.lemmas.List.{length-drop, length-map}
use Rattle.std.specs.Borrow.{Bor}
use Rattle.std.specs.Prelude.{option_and_then}
use Rattle.tm_terms.specs.declared.places.Place.{Place}
use Rattle.tm_terms.specs.declared.refusals.Kind.{Kind}
use Rattle.refusal_hints.specs.Hints.{construct_among, construct_at, surroundings_of}
use Rattle.refusal_hints.specs.Places.{offset_of}
use Rattle.refusal_hints.specs.Rows.{rows_of}
use Rattle.refusal_hints.specs.Words.{piece_length, words_from, words_of}
use Rattle.refusal_hints.specs.reading.Seen.{words_seen}

-- what a slice from an index on has
pub rest : (text : List ℕ) (i : ℕ) → take (length text - i) (drop i text) ≡ drop i text
rest text i = ap (λ k. take k (drop i text)) (sym (length-drop i text)) ∙ take-length (drop i text)

front : (before : List (List ℕ)) (all : List (Bor (List ℕ))) (word : List ℕ) → words_seen all ≡ before ++ word ∷ []
    → words_seen (take (length before) all) ≡ before
front [] all word e = refl
front (w ∷ before) [] word e = cc
front (w ∷ before) (b ∷ all) word e =
    let same : b.now ≡ w = cc in
    let more : words_seen all ≡ before ++ word ∷ [] = cc in
    ap (λ x. x ∷ words_seen (take (length before) all)) same ∙ ap (λ ws. w ∷ ws) (front before all word more)

-- the words before, once that at the place is pushed
pub before_is : (all old : List (Bor (List ℕ))) (word : List ℕ) (n : ℕ) → words_seen all ≡ words_seen old ++ word ∷ []
    → n ≡ length old → words_seen (take n all) ≡ words_seen old
before_is all old word n pushed count =
    ap (λ k. words_seen (take k all)) (count ∙ sym (length-map old (λ w. w.now)))
    ∙ front (words_seen old) all word pushed

-- all words up to that at the place
pub context_is : (all old behind : List (Bor (List ℕ))) (text : List ℕ) (n : ℕ)
    → words_seen all ≡ words_seen old ++ take (piece_length text) text ∷ [] → n ≡ length old
    → words_seen behind ≡ words_from text → words_seen all ≡ words_seen (take n all) ++ take 1 (words_seen behind)
context_is all old behind text n pushed count from =
    pushed ∙ ap (λ ws. ws ++ take (piece_length text) text ∷ []) (sym (before_is all old _ n pushed count))
    ∙ ap (λ ws. words_seen (take n all) ++ take 1 ws) (sym from)

-- what stands there, by the words round the place
pub at_place : (text : List ℕ) (place : Place) (kind : Kind) (offset : ℕ) (before behind : List (List ℕ))
    → offset_of text place ≡ Some offset → before ≡ [] ∷ words_of (take offset text)
    → behind ≡ words_from (drop offset text)
    → construct_among (record { before = before; behind = behind }) (rows_of kind) ≡ construct_at text place kind
at_place text place kind offset before behind there b h =
    ap (λ x. construct_among (record { before = x; behind = behind }) (rows_of kind)) b
    ∙ ap (λ x. construct_among (record { before = [] ∷ words_of (take offset text); behind = x }) (rows_of kind)) h
    ∙ ap (option_and_then (λ n. construct_among (surroundings_of text n) (rows_of kind))) (sym there)
