-- The lines of a text, one after the other.
use Rattle.std.proofs.Common.{◌≡◌, ℕ, zero, suc, ◌+◌, ◌<◌, ◌≤◌, ◌==◌, refl, ap, sym, ◌∙◌, Bool, true, false, not, cond, List, [], ◌∷◌, ◌++◌, length, take, drop, Some, None, Option, arith, ◌⊎◌, inl, inr}
use Rattle.std.proofs.lemmas.Bool.{cases_lt, eqb-true}
use Rattle.std.proofs.lemmas.List.{append_assoc}
use Rattle.std.proofs.lemmas.List.Splits.{slice_split-cons_no, slice_split_first, length-slice_split}
use Rattle.std.specs.Prelude.{option_map}
use Rattle.std.specs.List.{slice_split, onto_first, position_or_len, before_first, after_first, count_by}
use Rattle.concrete_steps.specs.declared.worlds.Choice.{Choice}
use Rattle.replay_lines.specs.Cuts.{is_newline}
use Rattle.replay_lines.specs.Choices.{ended, lines_of, choice_of, all_choices, before}
use Rattle.replay_lines.specs.reading.Choices.{in_front}

-- ## Lists

take_all : (xs : List ℕ) (n : ℕ) → length xs ≤ n → take n xs ≡ xs
take_all [] zero h = refl
take_all [] (suc n) h = refl
take_all (x ∷ xs) zero h = absurd (omega (arith, h))
take_all (x ∷ xs) (suc n) h = ap (λ z. x ∷ z) (take_all xs n (omega (arith, h)))

drop_all : (xs : List ℕ) (n : ℕ) → length xs ≤ n → drop n xs ≡ []
drop_all [] zero h = refl
drop_all [] (suc n) h = refl
drop_all (x ∷ xs) zero h = absurd (omega (arith, h))
drop_all (x ∷ xs) (suc n) h = drop_all xs n (omega (arith, h))

-- ## Lines

position_at : (x : ℕ) (xs : List ℕ) (b : Bool) → is_newline x ≡ b → position_or_len is_newline (x ∷ xs) ≡ cond (not b) (1 + position_or_len is_newline xs) 0
position_at x xs b e = ap (λ (t : Bool). cond (not t) (1 + position_or_len is_newline xs) 0) e

one_more : (x : ℕ) (xs : List ℕ) (b : Bool) → is_newline x ≡ b → length (x ∷ xs) ≤ position_or_len is_newline (x ∷ xs)
    → (length xs ≤ position_or_len is_newline xs → slice_split is_newline xs ≡ xs ∷ []) → slice_split is_newline (x ∷ xs) ≡ (x ∷ xs) ∷ []
one_more x xs true e h rest = absurd (let z : position_or_len is_newline (x ∷ xs) ≡ 0 = position_at x xs true e in omega (arith, z, h))
one_more x xs false e h rest =
    let z : position_or_len is_newline (x ∷ xs) ≡ 1 + position_or_len is_newline xs = position_at x xs false e in
    slice_split-cons_no is_newline x xs e ∙ ap (onto_first x) (rest (omega (arith, z, h)))

no_newline : (xs : List ℕ) → length xs ≤ position_or_len is_newline xs → slice_split is_newline xs ≡ xs ∷ []
no_newline [] h = refl
no_newline (x ∷ xs) h = one_more x xs (is_newline x) refl h (λ g. no_newline xs g)

ended_on : (line : List ℕ) (lines : List (List ℕ)) → 0 < length lines → ended (line ∷ lines) ≡ line ∷ ended lines
ended_on line [] h = absurd (omega (arith, h))
ended_on line (next ∷ lines) h = refl

ended_one : (line : List ℕ) → 0 < length line → ended (line ∷ []) ≡ line ∷ []
ended_one line h = by_test (length line == 0) refl
  where
    by_test : (b : Bool) → (length line == 0) ≡ b → ended (line ∷ []) ≡ line ∷ []
    by_test true e = absurd (let z : length line ≡ 0 = eqb-true (length line) 0 e in omega (arith, z, h))
    by_test false e = ap (λ (t : Bool). cond t [] (line ∷ [])) e

some_parts : (xs : List ℕ) → 0 < length (slice_split is_newline xs)
some_parts xs = let n = length-slice_split is_newline xs in omega (arith, n)

-- the first line of a text, and those behind it
lines_first : (xs : List ℕ) → 0 < length xs → lines_of xs ≡ before_first is_newline xs ∷ lines_of (after_first is_newline xs)
lines_first xs some = by_place (cases_lt (position_or_len is_newline xs) (length xs))
  where
    by_place : (position_or_len is_newline xs < length xs) ⊎ (length xs ≤ position_or_len is_newline xs)
        → lines_of xs ≡ before_first is_newline xs ∷ lines_of (after_first is_newline xs)
    by_place (inl l) =
        ap ended (slice_split_first is_newline xs 0 l)
        ∙ ended_on (before_first is_newline xs) (slice_split is_newline (after_first is_newline xs)) (some_parts (after_first is_newline xs))
    by_place (inr g) =
        ap ended (no_newline xs g) ∙ ended_one xs some
        ∙ ap (λ (z : List ℕ). z ∷ []) (sym (take_all xs (position_or_len is_newline xs) g))
        ∙ ap (λ (z : List ℕ). before_first is_newline xs ∷ lines_of z) (sym (drop_all xs (position_or_len is_newline xs + 1) (omega (arith, g))))

-- ## Choices

in_front_one : (choices : List Choice) (c : Choice) (others : Option (List Choice)) → in_front (choices ++ c ∷ []) others ≡ in_front choices (before (Some c) others)
in_front_one choices c None = refl
in_front_one choices c (Some others) = ap Some (append_assoc choices (c ∷ []) others)

-- the first line is a choice
pub choice_more : (choices more : List Choice) (c : Choice) (found : Option Choice) (rest line rest' : List ℕ) → 0 < length rest → line ≡ before_first is_newline rest
    → rest' ≡ after_first is_newline rest → found ≡ choice_of line → found ≡ Some c → more ≡ choices ++ c ∷ []
    → in_front more (all_choices (lines_of rest')) ≡ in_front choices (all_choices (lines_of rest))
choice_more choices more c found rest line rest' some e k f g h =
    ap (λ (z : List Choice). in_front z (all_choices (lines_of rest'))) h
    ∙ in_front_one choices c (all_choices (lines_of rest'))
    ∙ ap (λ (z : Option Choice). in_front choices (before z (all_choices (lines_of rest')))) (sym g ∙ f ∙ ap choice_of e)
    ∙ ap (λ (z : List ℕ). in_front choices (before (choice_of (before_first is_newline rest)) (all_choices (lines_of z)))) k
    ∙ ap (λ (z : List (List ℕ)). in_front choices (all_choices z)) (sym (lines_first rest some))

-- the first line is none
pub no_choice : (choices : List Choice) (found : Option Choice) (rest line : List ℕ) → 0 < length rest → line ≡ before_first is_newline rest → found ≡ choice_of line → found ≡ None
    → in_front choices (all_choices (lines_of rest)) ≡ None
no_choice choices found rest line some e f g =
    ap (λ (z : List (List ℕ)). in_front choices (all_choices z)) (lines_first rest some)
    ∙ ap (λ (z : Option Choice). in_front choices (before z (all_choices (lines_of (after_first is_newline rest))))) (sym (ap choice_of e) ∙ sym f ∙ g)
