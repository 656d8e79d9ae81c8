-- What is known of the first line of a text, and of the first words of a line.
use Rattle.std.proofs.Common.{◌≡◌, refl, sym, ap, subst, ◌∙◌, ℕ, zero, suc, ◌<◌, ◌+◌, ℤ, List, [], ◌∷◌, ◌++◌, length, take}
use Rattle.std.proofs.Common.{drop, get_or, arith, ◌≤◌, length-drop}
use Rattle.std.specs.Prelude.{◌==◌}
use Rattle.std.proofs.lemmas.Bool.Decides.{nat_tests}
use Rattle.std.proofs.lemmas.List.{take_all}
use Rattle.certificate_words.specs.declared.words.Word.{Word as Held}
use Rattle.std.specs.Prelude.{Bool, true, false, MatchBool}
use Rattle.certificate_words.specs.Words.{Word, tag, number, word_text, IsWord, AreWords, Line, IsLine, line_onto}
use Rattle.certificate_words.specs.Words.{words_onto}
use Rattle.certificate_words.specs.Lines.{HasNoLine, IsNextLine, word_of, words_of}
use Rattle.certificate_words.proofs.OneText as texts
use Rattle.certificate_parts.specs.Fronts.{numbered_words, IsNotNumbered, IsNotBegun, AreFront}
use Rattle.certificate_parts.specs.Fronts.{IsBehind, IsNotFront, ahead_text, IsAhead}

-- ## Lines

pub record IsFrontOf (text : List ℕ) (line : Line) : Type 0 where
  pub lawful : IsLine line
  pub rest : List ℕ
  pub is : text ≡ line_onto line rest

pub front_is : (text : List ℕ) (words : List Word) (line : Line) → AreFront text words
    → words ≡ line.first ∷ line.rest → IsFrontOf text line
front_is text [] line f e = absurd (cc)
front_is text (w ∷ ws) line f e =
    let a : w ≡ line.first = cc in
    let b : ws ≡ line.rest = cc in
    record {
      lawful = (subst IsWord a f.first, subst AreWords b f.others);
      rest = f.rest;
      is = f.is ∙ λ i. words_onto (a i) (b i) f.rest;
    }

-- the first line is none but that of these words
pub one_front : (text : List ℕ) (words : List Word) (line : Line) (rest : List ℕ) → AreFront text words → IsLine line
    → text ≡ line_onto line rest → words ≡ line.first ∷ line.rest
one_front text [] line rest f h e = absurd (f.never line rest h e)
one_front text (w ∷ ws) line rest f h e =
    let t = texts.line (record { first = w; rest = ws }) line f.rest rest (f.first, f.others) h (sym f.is ∙ e) in
    ap (λ (l : Line). l.first ∷ l.rest) t.0

pub not_front : (text : List ℕ) (words : List Word) (line : Line) → AreFront text words
    → (words ≡ line.first ∷ line.rest → ⊥) → IsNotFront line text
not_front text words line f other =
    record { never = λ rest h e. other (one_front text words line rest f h e) }

-- the line in front has been stepped over
pub stepped : (old new : List ℕ) (line : Line) → IsFrontOf old line → IsBehind old new → old ≡ line_onto line new
stepped old new line f b = f.is ∙ ap (line_onto line) (sym (b.passes line f.rest f.lawful f.is))

-- a text in which a line has been read ahead
pub read_on : (has : Bool) (text : List ℕ) (words : List Word) (rest : List ℕ)
    → MatchBool has (IsNextLine text words rest) (HasNoLine text × (rest ≡ text)) → ahead_text has words rest ≡ text
read_on true text [] rest h = let e = h.words_are in absurd (cc)
read_on true text (w ∷ ws) rest h =
    let e = h.words_are in
    let a : h.line.first ≡ w = cc in
    let b : h.line.rest ≡ ws = cc in
    sym (h.text_is ∙ λ i. words_onto (a i) (b i) rest)
read_on false text words rest h = h.1

-- the line that was read ahead is stepped over
pub step_over : (old : List ℕ) (has : Bool) (words : List Word) (lines new : List ℕ) → old ≡ ahead_text has words lines
    → IsAhead has words lines → has ≡ true → new ≡ lines → IsBehind old new
step_over old false words lines new e a h n = absurd (cc)
step_over old true [] lines new e a h n = absurd a
step_over old true (w ∷ ws) lines new e a h n =
    record {
      passes = λ line rest lawful i.
          n ∙ (texts.line (record { first = w; rest = ws }) line lines rest (a.0, a.1) lawful (sym e ∙ i)).1;
    }

cons_in : (a b : List ℕ) (x : ℕ) → [] ≡ a ++ (x ∷ b) → ⊥
cons_in [] b x e = cc
cons_in (y ∷ a) b x e = cc

some_text : (w : Word) (ws : List Word) (rest : List ℕ) → [] ≡ words_onto w ws rest → ⊥
some_text w [] rest e = cons_in (word_text w) rest 10 e
some_text w (v ∷ ws) rest e = cons_in (word_text w) (words_onto v ws rest) 32 e

-- the empty text has no line
pub no_text : (text : List ℕ) → text ≡ [] → HasNoLine text
no_text text e = record { never = λ line rest lawful i. some_text line.first line.rest rest (sym e ∙ i) }

-- ## Words

pub numbered_append : (a b : List ℤ) (ws : List Word) → numbered_words (a ++ b) ws ≡ numbered_words a (numbered_words b ws)
numbered_append [] b ws = refl
numbered_append (z ∷ a) b ws = ap (λ w. number z ∷ w) (numbered_append a b ws)

numbered_cancel : (a : List ℤ) (x y : List Word) → numbered_words a x ≡ numbered_words a y → x ≡ y
numbered_cancel [] x y e = e
numbered_cancel (z ∷ a) x y e =
    let f : numbered_words a x ≡ numbered_words a y = cc in numbered_cancel a x y f

around : {A : Type 0} (xs : List A) (d : A) (i : ℕ) → i < length xs → xs ≡ take i xs ++ (get_or xs i d ∷ drop (i + 1) xs)
around [] d i l = absurd (omega (arith, l))
around (x ∷ xs) d zero l = refl
around (x ∷ xs) d (suc i) l =
    let e : suc i + 1 ≡ suc (i + 1) = omega arith in
    ap (λ ys. x ∷ ys) (around xs d i (omega (arith, l)))
    ∙ ap (λ n. x ∷ (take i xs ++ (get_or xs i d ∷ drop n (x ∷ xs)))) (sym e)

take_one : {A : Type 0} (xs : List A) (d : A) (i : ℕ) → i < length xs → take (i + 1) xs ≡ take i xs ++ get_or xs i d ∷ []
take_one [] d i l = absurd (omega (arith, l))
take_one (x ∷ xs) d zero l = refl
take_one (x ∷ xs) d (suc i) l =
    let e : suc i + 1 ≡ suc (i + 1) = omega arith in
    ap (λ n. take n (x ∷ xs)) e ∙ ap (λ ys. x ∷ ys) (take_one xs d i (omega (arith, l)))

-- one number more
pub numbered_at : (words rest more : List Word) (numbers : List ℤ) (d : ℤ) (i : ℕ) → i < length numbers
    → words ≡ numbered_words (take i numbers) rest → rest ≡ number (get_or numbers i d) ∷ more
    → words ≡ numbered_words (take (i + 1) numbers) more
numbered_at words rest more numbers d i l h e =
    h ∙ (ap (numbered_words (take i numbers)) e
    ∙ (sym (numbered_append (take i numbers) (get_or numbers i d ∷ []) more)
    ∙ ap (λ zs. numbered_words zs more) (sym (take_one numbers d i l))))

-- another word
pub not_numbered : (words rest : List Word) (numbers : List ℤ) (d : ℤ) (i : ℕ) → i < length numbers
    → words ≡ numbered_words (take i numbers) rest → ((more : List Word) → rest ≡ number (get_or numbers i d) ∷ more → ⊥)
    → IsNotNumbered words numbers
not_numbered words rest numbers d i l h other =
    record {
      never = λ more e.
          other (numbered_words (drop (i + 1) numbers) more) (numbered_cancel (take i numbers) rest
          (number (get_or numbers i d) ∷ numbered_words (drop (i + 1) numbers) more)
          (sym h ∙ (e ∙ (ap (λ zs. numbered_words zs more) (around numbers d i l)
          ∙ numbered_append (take i numbers) (get_or numbers i d ∷ drop (i + 1) numbers) more))));
    }

pub not_begun_other : (w : Word) (ws : List Word) (letters : List ℕ) (numbers : List ℤ) → (w ≡ tag letters → ⊥)
    → IsNotBegun (w ∷ ws) letters numbers
not_begun_other w ws letters numbers other =
    record { never = λ more e. let f : w ≡ tag letters = cc in other f }

pub not_begun_behind : (w : Word) (ws : List Word) (letters : List ℕ) (numbers : List ℤ) → IsNotNumbered ws numbers
    → IsNotBegun (w ∷ ws) letters numbers
not_begun_behind w ws letters numbers none =
    record { never = λ more e. let f : ws ≡ numbered_words numbers more = cc in none.never more f }

pub not_begun_empty : (letters : List ℕ) (numbers : List ℤ) → IsNotBegun [] letters numbers
not_begun_empty letters numbers = record { never = λ more e. cc }

-- ## Words as code holds them

pub words_of_drop : (n : ℕ) (ws : List Held) → words_of (drop n ws) ≡ drop n (words_of ws)
words_of_drop zero ws = refl
words_of_drop (suc n) [] = refl
words_of_drop (suc n) (w ∷ ws) = words_of_drop n ws

pub held_at : (ws : List Held) (d : Held) (i : ℕ) → i < length ws
    → words_of (drop i ws) ≡ word_of (get_or ws i d) ∷ words_of (drop (i + 1) ws)
held_at [] d i l = absurd (omega (arith, l))
held_at (w ∷ ws) d zero l = refl
held_at (w ∷ ws) d (suc i) l =
    let e : suc i + 1 ≡ suc (i + 1) = omega arith in
    held_at ws d i (omega (arith, l)) ∙ ap (λ n. word_of (get_or ws i d) ∷ words_of (drop n (w ∷ ws))) (sym e)

-- one number more
pub held_number : (words : List Held) (numbers : List ℤ) (w : Held) (d : ℤ) (i : ℕ) → i < length words
    → i < length numbers → words_of words ≡ numbered_words (take i numbers) (words_of (drop i words))
    → word_of (get_or words i w) ≡ number (get_or numbers i d)
    → words_of words ≡ numbered_words (take (i + 1) numbers) (words_of (drop (i + 1) words))
held_number words numbers w d i l m h e =
    numbered_at (words_of words) (words_of (drop i words)) (words_of (drop (i + 1) words)) numbers d i m h
    (held_at words w i l ∙ ap (λ x. x ∷ words_of (drop (i + 1) words)) e)

-- another word
pub held_other : (words : List Held) (numbers : List ℤ) (w : Held) (d : ℤ) (i : ℕ) → i < length words
    → i < length numbers → words_of words ≡ numbered_words (take i numbers) (words_of (drop i words))
    → (word_of (get_or words i w) ≡ number (get_or numbers i d) → ⊥) → IsNotNumbered (words_of words) numbers
held_other words numbers w d i l m h other =
    not_numbered (words_of words) (words_of (drop i words)) numbers d i m h (λ more e. by_word more (sym (held_at words w i l) ∙ e))
  where
    by_word : (more : List Word) → word_of (get_or words i w) ∷ words_of (drop (i + 1) words) ≡ number (get_or numbers i d) ∷ more
        → ⊥
    by_word more e = other (let f : word_of (get_or words i w) ≡ number (get_or numbers i d) = cc in f)

length_of : (ws : List Held) → length (words_of ws) ≡ length ws
length_of [] = refl
length_of (w ∷ ws) = let h = length_of ws in omega (arith, h)

length_numbered : (zs : List ℤ) (more : List Word) → length (numbered_words zs more) ≡ length zs + length more
length_numbered [] more = omega arith
length_numbered (z ∷ zs) more = let h = length_numbered zs more in omega (arith, h)

-- too few words
pub too_few : (words : List Held) (numbers : List ℤ) → length words < length numbers
    → IsNotNumbered (words_of words) numbers
too_few words numbers l =
    record {
      never = λ more e.
          (let a = length_of words in
          let b = length_numbered numbers more in
          let c : length (words_of words) ≡ length (numbered_words numbers more) = ap length e in
          omega (arith, a, b, c, l));
    }

-- all numbers
pub held_all : (words : List Held) (numbers : List ℤ) (n i : ℕ) → length numbers ≤ i → i ≤ length numbers
    → length words ≤ n + length numbers → words_of words ≡ numbered_words (take i numbers) (words_of (drop i words))
    → words_of words ≡ numbered_words numbers (words_of (take n (drop (length numbers) words)))
held_all words numbers n i l u m h =
    let same : i ≡ length numbers = omega (arith, l, u) in
    let d = length-drop (length numbers) words in
    h ∙ (ap (λ zs. numbered_words zs (words_of (drop i words))) (take_all i numbers l)
    ∙ (ap (λ k. numbered_words numbers (words_of (drop k words))) same
    ∙ ap (λ ws. numbered_words numbers (words_of ws)) (sym (take_all n (drop (length numbers) words) (omega (arith, d, m))))))

-- ## The words of a whole line

no_zero : (n : ℕ) → 0 < n → (n == 0) ≡ true → ⊥
no_zero n h e = grind (arith, nat_tests)

pub exact_front : (words : List Word) (letters : List ℕ) (numbers : List ℤ) (more : List Held) (b : Bool)
    → words ≡ tag letters ∷ numbered_words numbers (words_of more) → b ≡ (length more == 0)
    → (b ≡ true → words ≡ tag letters ∷ numbered_words numbers [])
    × (words ≡ tag letters ∷ numbered_words numbers [] → b ≡ true)
exact_front words letters numbers [] b e h = ((λ t. e), (λ f. h))
exact_front words letters numbers (w ∷ ws) b e h = (
  (λ t. absurd (no_zero (length (w ∷ ws)) (omega arith) (sym h ∙ t))),
  (λ f. absurd (by_rest (numbered_cancel numbers [] (word_of w ∷ words_of ws) (behind_tag (sym f ∙ e))))),
)
  where
    by_rest : [] ≡ word_of w ∷ words_of ws → ⊥
    by_rest i = cc

    behind_tag : tag letters ∷ numbered_words numbers [] ≡ tag letters ∷ numbered_words numbers (word_of w ∷ words_of ws)
        → numbered_words numbers [] ≡ numbered_words numbers (word_of w ∷ words_of ws)
    behind_tag i = cc

-- ## The end

-- a text in which a line was read ahead is not at its end
pub not_ended : (old : List ℕ) (has : Bool) (words : List Word) (lines : List ℕ) → old ≡ ahead_text has words lines
    → IsAhead has words lines → has ≡ true → old ≡ [] → ⊥
not_ended old false words lines e a h n = cc
not_ended old true [] lines e a h n = a
not_ended old true (w ∷ ws) lines e a h n = some_text w ws lines (sym n ∙ e)

-- where none was, it is at its end where nothing is left of it
pub ended_at : (old : List ℕ) (has : Bool) (words : List Word) (lines rest : List ℕ) (b : Bool)
    → old ≡ ahead_text has words lines → has ≡ false → rest ≡ lines → b ≡ (length rest == 0)
    → (b ≡ true → old ≡ []) × (old ≡ [] → b ≡ true)
ended_at old true words lines rest b e h r t = absurd (cc)
ended_at old false words lines rest b e h r t =
    ((λ f. e ∙ (sym r ∙ no_bytes rest (sym t ∙ f))), (λ n. t ∙ ap (λ (x : List ℕ). length x == 0) (r ∙ (sym e ∙ n))))
  where
    no_bytes : (x : List ℕ) → (length x == 0) ≡ true → x ≡ []
    no_bytes [] i = refl
    no_bytes (b ∷ x) i = absurd (no_zero (length (b ∷ x)) (omega arith) i)
