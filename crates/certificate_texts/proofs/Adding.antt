-- Words and lines that are added to a page one after another.
use Rattle.std.proofs.Common.{◌≡◌, refl, sym, ap, ◌∙◌, ℕ, ℤ, pos, ◌+◌, ◌<◌, ◌≤◌, List, [], ◌∷◌, ◌++◌, length, get_or, take, arith}
use Rattle.std.proofs.Common.{append-nil, append_assoc}
use Rattle.std.specs.List.{flat_map, enumerate_from}
use Rattle.std.proofs.lemmas.List.FromFn.{length-enumerate_from, get_or-enumerate_from}
use Rattle.std.proofs.lemmas.List.{take_more, take_all}
use Rattle.std.proofs.lemmas.Grind.{flat_map-append}
use Rattle.std.proofs.lemmas.List.Sums.{fold-append}
use Rattle.certificate_words.specs.declared.words.Word.{Word as Held}
use Rattle.certificate_words.specs.Words.{Word, number, Line}
use Rattle.certificate_words.specs.Lines.{word_of, words_of}
use Rattle.certificate_texts.specs.StateLines.{tagged}
use Rattle.certificate_texts.specs.reading.Cuts.{with_line, with_lines}
use Rattle.certificate_texts.specs.reading.Pages.{HasBegun, HasWords, HasLines, HasEnded}
use Rattle.certificate_texts.specs.declared.pages.Page.{Page}
use Rattle.certificate_texts.specs.Limits.{certificate_limit}
use Rattle.certificate_texts.proofs.Cutting.{all_stay}

-- ## Lists

-- what an element more adds
pub flat_map_next : {X A : Type 0} (f : X → List A) (xs : List X) (i : ℕ) (x : X) → i < length xs
    → x ≡ get_or xs i x → flat_map f (take (i + 1) xs) ≡ flat_map f (take i xs) ++ f x
flat_map_next f xs i x less is =
    ap (flat_map f) (take_more xs i x less) ∙ flat_map-append f (take i xs) (get_or xs i x ∷ [])
    ∙ ap (λ t. flat_map f (take i xs) ++ t) (append-nil (f (get_or xs i x)) ∙ ap f (sym is))

pub words_of-append : (ws vs : List Held) → words_of (ws ++ vs) ≡ words_of ws ++ words_of vs
words_of-append [] vs = refl
words_of-append (w ∷ ws) vs = ap (λ t. word_of w ∷ t) (words_of-append ws vs)

-- an element with its number
pub numbered_element : {X : Type 0} (xs : List X) (i : ℕ) (x : X) → i < length xs → x ≡ get_or xs i x
    → (i < length (enumerate_from 0 xs)) × ((i, x) ≡ get_or (enumerate_from 0 xs) i (i, x))
numbered_element xs i x less is =
    let size = length-enumerate_from 0 xs in
    let number : i ≡ 0 + i = omega arith in
    (omega (arith, less, size), (λ j. (number j, is j)) ∙ sym (get_or-enumerate_from 0 xs i (i, x) less))

-- where all elements are taken, what they add is what the list adds
pub flat_map_all : {X A : Type 0} (f : X → List A) (xs ys : List X) (i : ℕ) → length xs ≤ i → xs ≡ ys
    → flat_map f (take i xs) ≡ flat_map f ys
flat_map_all f xs ys i le same = ap (flat_map f) (take_all i xs le ∙ same)

-- ## Words

pub no_words : (a b : Page) → b.text.items ≡ a.text.items → words_of b.words.items ≡ words_of a.words.items
    → HasWords a b []
no_words a b text words = record { text = text; words = words ∙ sym (append-nil (words_of a.words.items)) }

pub words_then : {a b c : Page} {ws vs : List Word} → HasWords a b ws → HasWords b c vs → HasWords a c (ws ++ vs)
words_then {a} {b} {c} {ws} {vs} one more = record {
  text = more.text ∙ one.text;
  words = more.words ∙ ap (λ t. t ++ vs) one.words ∙ append_assoc (words_of a.words.items) ws vs;
}

-- the same words, written otherwise
pub as_words : {a b : Page} {ws vs : List Word} → HasWords a b ws → ws ≡ vs → HasWords a b vs
as_words {a} {b} more same = record {
  text = more.text;
  words = more.words ∙ ap (λ t. words_of a.words.items ++ t) same;
}

pub as_number : {a b : Page} {y z : ℤ} → HasWords a b (number y ∷ []) → y ≡ z → HasWords a b (number z ∷ [])
as_number more same = as_words more (ap (λ x. number x ∷ []) same)

pub as_natural : {a b : Page} {n m : ℕ} → HasWords a b (number (pos n) ∷ []) → n ≡ m → HasWords a b (number (pos m) ∷ [])
as_natural more same = as_words more (ap (λ k. number (pos k) ∷ []) same)

-- the words of an element more
pub words_next : {X : Type 0} (f : X → List Word) (xs : List X) (i : ℕ) (x : X) (a b c : Page) → i < length xs
    → x ≡ get_or xs i x → HasWords a b (flat_map f (take i xs)) → HasWords b c (f x)
    → HasWords a c (flat_map f (take (i + 1) xs))
words_next f xs i x a b c less is so more =
    let all = words_then so more in record {
      text = all.text;
      words = all.words ∙ ap (λ t. words_of a.words.items ++ t) (sym (flat_map_next f xs i x less is));
    }

-- ## Lines

pub no_lines : (a b : Page) → b.text.items ≡ a.text.items → HasLines a b []
no_lines a b same = record { text = same }

pub lines_then : {a b c : Page} {ls ms : List Line} → HasLines a b ls → HasLines b c ms → HasLines a c (ls ++ ms)
lines_then {a} {b} {c} {ls} {ms} one more = record {
  text = more.text ∙ ap (λ t. with_lines t ms) one.text ∙ sym (fold-append with_line a.text.items ls ms);
}

-- a text that is too long stays
pub stopped : (a : Page) (lines : List Line) → certificate_limit < length a.text.items → HasLines a a lines
stopped a lines less = record { text = sym (all_stay certificate_limit a.text.items lines less) }

-- the same lines, written otherwise
pub as_lines : {a b : Page} {ls ms : List Line} → HasLines a b ls → ls ≡ ms → HasLines a b ms
as_lines {a} {b} more same = record { text = more.text ∙ ap (with_lines a.text.items) same }

-- the lines of an element more
pub lines_next : {X : Type 0} (f : X → List Line) (xs : List X) (i : ℕ) (x : X) (a b c : Page) → i < length xs
    → x ≡ get_or xs i x → HasLines a b (flat_map f (take i xs)) → HasLines b c (f x)
    → HasLines a c (flat_map f (take (i + 1) xs))
lines_next f xs i x a b c less is so more = record {
  text = (lines_then so more).text ∙ ap (with_lines a.text.items) (sym (flat_map_next f xs i x less is));
}

-- a line that is begun, has words added and is ended
pub line_whole : {a b c d : Page} {letters : List ℕ} {ws : List Word} → HasBegun a b letters → HasWords b c ws
    → HasEnded c d → HasLines a d (tagged letters ws ∷ [])
line_whole {a} {b} {c} {d} {letters} {ws} begun more ended = record {
  text = (ended.text (tagged letters ws) (more.words ∙ ap (λ t. t ++ ws) begun.words)).text
      ∙ ap (λ t. with_lines t (tagged letters ws ∷ [])) (more.text ∙ begun.text);
}

-- the lines of the first of the elements that are left are there now
pub walked : {X : Type 0} (f : X → List Line) (b c : Page) (x : X) (left rest : List X) (text : List ℕ)
    → left ≡ x ∷ rest → HasLines b c (f x) → with_lines b.text.items (flat_map f left) ≡ text
    → with_lines c.text.items (flat_map f rest) ≡ text
walked f b c x left rest text is more so =
    ap (λ t. with_lines t (flat_map f rest)) more.text ∙ sym (fold-append with_line b.text.items (f x) (flat_map f rest))
    ∙ ap (λ xs. with_lines b.text.items (flat_map f xs)) (sym is) ∙ so

pub line_alone : {a b c : Page} {letters : List ℕ} → HasBegun a b letters → HasEnded b c
    → HasLines a c (tagged letters [] ∷ [])
line_alone {a} {b} {c} {letters} begun ended = record {
  text = (ended.text (tagged letters []) begun.words).text
      ∙ ap (λ t. with_lines t (tagged letters [] ∷ [])) begun.text;
}
