-- What begins takes at least one byte and no more than there are, so each source is read to an answer.
use Rattle.std.proofs.Common.{◌≡◌, ℕ, zero, suc, ◌+◌, ◌<◌, ◌≤◌, Bool, true, false, cond, eqb, leb, ◌&&◌, ◌||◌, List, [], ◌∷◌, length, get_or, drop, Option, Some, None, Result, Err, refl, ap, ◌∙◌, inl, inr, ◌⊎◌, arith}
use Rattle.std.specs.Prelude.{option_map, option_and_then, IfSome, IsSome}
use Rattle.std.specs.List.{prefix_len}
use Rattle.std.specs.Char.{is_ascii_digit}
use Rattle.std.proofs.Math.Bool.{and-false}
use Rattle.std.proofs.lemmas.Bool.{cases_lt, eqb-true}
use Rattle.std.proofs.lemmas.List.{get_or_past, length-drop}
use Rattle.std.proofs.lemmas.List.Sums.{prefix_len-le-length}
use Rattle.tm_terms.specs.Lexis.{behind, token, char_value, is_name_start, is_name_byte, is_number_byte, gap, word_piece, constant_of, front, number_piece, quoted, character_in, character, comment_end, comment, line_comment, is_skipped_word, skipped_line, long_signs, double_signs, sign_in, longest_sign, sign_of, begins}
use Rattle.tm_terms.specs.Splices.{is_blank, is_in_line, is_blank_in_line, is_other_line, is_spliced_slash, leaves_open}
use Rattle.tm_terms.specs.Spelling.{Reading, at_start, read_past, next_reading, reading, with_first_names, Lexes, stops, spells, lexical, checked}
use Rattle.tm_terms.specs.declared.refusals.Refusal.{Refusal}
use Rattle.tm_terms.specs.declared.tokens.Piece.{Piece}
use Rattle.tm_terms.specs.declared.tokens.Shape.TheVariants as shape
use Rattle.tm_terms.specs.declared.tokens.Sign.{Sign}
use Rattle.tm_terms.specs.declared.tokens.Token.{Token}

-- ## What begins has a length within the text

abbrev Fits : List ℕ → Option Piece → Type 0
Fits text o = IfSome o (λ p. (0 < p.length) × (p.length ≤ length text))

either : (text : List ℕ) (b : Bool) (x y : Option Piece) → (b ≡ true → Fits text x) → (b ≡ false → Fits text y) → Fits text (cond b x y)
either text true x y f g = f refl
either text false x y f g = g refl

mapped : {X : Type 0} (text : List ℕ) (f : X → Piece) (o : Option X) → ((x : X) → (0 < (f x).length) × ((f x).length ≤ length text)) → Fits text (option_map f o)
mapped text f None h = tt
mapped text f (Some x) h = h x

chained : {X : Type 0} (text : List ℕ) (f : X → Option Piece) (o : Option X) → ((x : X) → o ≡ Some x → Fits text (f x)) → Fits text (option_and_then f o)
chained text f None h = tt
chained text f (Some x) h = h x refl

-- a byte that is not 0 stands within the text
inside : (text : List ℕ) (i b : ℕ) → 0 < b → eqb (get_or text i 0) b ≡ true → i < length text
inside text i b some h = by_order (cases_lt i (length text))
  where
    by_order : (i < length text) ⊎ (length text ≤ i) → i < length text
    by_order (inl less) = less
    by_order (inr more) = absurd (omega (arith, get_or_past text i 0 more, eqb-true (get_or text i 0) b h))

starts : (test : ℕ → Bool) (text : List ℕ) → 0 < length text → test (get_or text 0 0) ≡ true → 0 < prefix_len test text
starts test [] some h = absurd (omega arith)
starts test (a ∷ text) some h = rw h (omega arith)

run_fits : (test : ℕ → Bool) (text : List ℕ) → 0 < length text → test (get_or text 0 0) ≡ true → (0 < prefix_len test text) × (prefix_len test text ≤ length text)
run_fits test text some h = (starts test text some h, prefix_len-le-length test text)

-- `a` is a start of a name where it is a letter or `_`: then it may go on in one too
name_goes_on : (digit upper lower line : Bool) → ((upper || lower) || line) ≡ true → (((digit || upper) || lower) || line) ≡ true
name_goes_on true upper lower line h = refl
name_goes_on false upper lower line h = h

digit_goes_on : (digit upper lower line dot : Bool) → digit ≡ true → ((((digit || upper) || lower) || line) || dot) ≡ true
digit_goes_on digit upper lower line dot h = rw h refl

name_byte : (a : ℕ) → is_name_start a ≡ true → is_name_byte a ≡ true
name_byte a h = name_goes_on (leb 48 a && leb a 57) (leb 65 a && leb a 90) (leb 97 a && leb a 122) (eqb a 95) h

number_byte : (a : ℕ) → is_ascii_digit a ≡ true → is_number_byte a ≡ true
number_byte a h = digit_goes_on (leb 48 a && leb a 57) (leb 65 a && leb a 90) (leb 97 a && leb a 122) (eqb a 95) (eqb a 46) h

in_line : (a b : ℕ) → eqb a b ≡ true → is_in_line b ≡ true → is_in_line a ≡ true
in_line a b h line = let same : a ≡ b = eqb-true a b h in rw same line

word_fits : (at : ℕ) (text : List ℕ) → 0 < length text → is_name_start (get_or text 0 0) ≡ true → Fits text (word_piece at text)
unfolding word_piece
word_fits at text some h = run_fits is_name_byte text some (name_byte (get_or text 0 0) h)

number_fits : (text : List ℕ) → 0 < length text → is_ascii_digit (get_or text 0 0) ≡ true → Fits text (number_piece text)
unfolding number_piece
number_fits text some h = mapped text _ (constant_of (front is_number_byte text)) (λ _. run_fits is_number_byte text some (number_byte (get_or text 0 0) h))

character_fits : (text : List ℕ) → Fits text (character text)
unfolding character
character_fits text = chained text (quoted text) (character_in (drop 1 text)) (λ c _.
    either text (eqb (get_or text (c.1 + 1) 0) 39) (token (shape.Character (char_value c.0)) (c.1 + 2)) None (λ h. (omega arith, omega (arith, inside text (c.1 + 1) 39 (omega arith) h))) (λ _. tt))

line_fits : (text : List ℕ) (b : ℕ) → 0 < length text → eqb (get_or text 0 0) b ≡ true → is_in_line b ≡ true → Fits text (gap (prefix_len is_in_line text))
line_fits text b some h line = run_fits is_in_line text some (in_line (get_or text 0 0) b h line)

line_comment_fits : (text : List ℕ) → 0 < length text → eqb (get_or text 0 0) 47 ≡ true → Fits text (line_comment text)
line_comment_fits text some h = either text (is_other_line text) None (gap (prefix_len is_in_line text)) (λ _. tt) (λ _. line_fits text 47 some h refl)

skipped_fits : (text : List ℕ) → 0 < length text → eqb (get_or text 0 0) 35 ≡ true → Fits text (skipped_line text)
unfolding skipped_line
skipped_fits text some h =
    let goes_on = is_other_line text || leaves_open (front is_in_line text) in
    let line = gap (prefix_len is_in_line text) in
    either text (is_skipped_word (front is_name_byte (behind is_blank_in_line (drop 1 text)))) (cond goes_on None line) None
    (λ _. either text goes_on None line (λ _. tt) (λ _. line_fits text 35 some h refl)) (λ _. tt)

right_of : (a b : Bool) → (a && b) ≡ true → b ≡ true
right_of true b h = h
right_of false b h = cc

left_of : (a b : Bool) → (a && b) ≡ true → a ≡ true
left_of true b h = refl
left_of false b h = cc

comment_end_within : (k : ℕ) (text : List ℕ) (n : ℕ) → comment_end k text ≡ Some n → (k ≤ n) × (n ≤ k + length text)
comment_end_within k [] n h = cc
comment_end_within k (b ∷ text) n h =
    by_case (eqb b 42 && eqb (get_or text 0 0) 47) (eqb b 42 && is_spliced_slash text) (λ t. ends t) h (comment_end_within (k + 1) text n)
  where
    ends : (eqb b 42 && eqb (get_or text 0 0) 47) ≡ true → 1 ≤ length text
    ends t = inside text 0 47 (omega arith) (right_of (eqb b 42) (eqb (get_or text 0 0) 47) t)

    by_case : (t hidden : Bool) → (t ≡ true → 1 ≤ length text) → cond t (Some (k + 2)) (cond hidden None (comment_end (k + 1) text)) ≡ Some n
        → (comment_end (k + 1) text ≡ Some n → (k + 1 ≤ n) × (n ≤ k + 1 + length text)) → (k ≤ n) × (n ≤ k + suc (length text))
    by_case true hidden short e rest = let same : k + 2 ≡ n = cc in let one = short refl in (omega arith, omega arith)
    by_case false true short e rest = cc
    by_case false false short e rest = let later = rest e in (omega arith, omega arith)

comment_fits : (text : List ℕ) → eqb (get_or text 1 0) 42 ≡ true → Fits text (comment text)
unfolding comment
comment_fits text h = chained text gap (comment_end 2 (drop 2 text)) (λ n e.
    let within = comment_end_within 2 (drop 2 text) n e in
    (omega arith, omega (arith, length-drop 2 text, inside text 1 42 (omega arith) h)))

no_long : (a b : ℕ) → sign_in long_signs (a ∷ b ∷ 0 ∷ []) ≡ None
unfolding long_signs
no_long a b = simp and-false

no_double : (a : ℕ) → sign_in double_signs (a ∷ 0 ∷ []) ≡ None
unfolding double_signs
no_double a = simp and-false

signs_fit : (text : List ℕ) (x y z : Option Sign) → (IsSome x → 3 ≤ length text) → (IsSome y → 2 ≤ length text) → 0 < length text → Fits text (longest_sign x y z)
signs_fit text (Some s) y z three two one = let h = three refl in (omega arith, omega arith)
signs_fit text None (Some s) z three two one = let h = two refl in (omega arith, omega arith)
signs_fit text None None (Some s) three two one = (omega arith, omega arith)
signs_fit text None None None three two one = tt

long_enough : (text : List ℕ) (o : ℕ → Option Sign) (n : ℕ) → o 0 ≡ None → IsSome (o (get_or text n 0)) → n < length text
long_enough text o n none some = by_order (cases_lt n (length text))
  where
    by_order : (n < length text) ⊎ (length text ≤ n) → n < length text
    by_order (inl less) = less
    by_order (inr more) =
        let gone : o (get_or text n 0) ≡ None = ap o (get_or_past text n 0 more) ∙ none in
        let some_gone = rw gone at some in cc

sign_fits : (text : List ℕ) → 0 < length text → Fits text (sign_of text)
unfolding sign_of
sign_fits text some =
    signs_fit text _ _ _
    (λ h. long_enough text (λ c. sign_in long_signs (get_or text 0 0 ∷ get_or text 1 0 ∷ c ∷ [])) 2 (no_long _ _) h)
    (λ h. long_enough text (λ b. sign_in double_signs (get_or text 0 0 ∷ b ∷ [])) 1 (no_double _) h)
    some

choices : (text : List ℕ) (none blank name digit quote hash star line : Bool) (x1 x2 x3 x4 x5 x6 x7 x8 : Option Piece)
    → (none ≡ false → blank ≡ true → Fits text x1) → (none ≡ false → name ≡ true → Fits text x2) → (none ≡ false → digit ≡ true → Fits text x3) → Fits text x4
    → (none ≡ false → hash ≡ true → Fits text x5) → (star ≡ true → Fits text x6) → (none ≡ false → line ≡ true → Fits text x7) → (none ≡ false → Fits text x8)
    → Fits text (cond none None (cond blank x1 (cond name x2 (cond digit x3 (cond quote x4 (cond hash x5 (cond star x6 (cond line x7 x8))))))))
choices text true blank name digit quote hash star line x1 x2 x3 x4 x5 x6 x7 x8 f1 f2 f3 f4 f5 f6 f7 f8 = tt
choices text false true name digit quote hash star line x1 x2 x3 x4 x5 x6 x7 x8 f1 f2 f3 f4 f5 f6 f7 f8 = f1 refl refl
choices text false false true digit quote hash star line x1 x2 x3 x4 x5 x6 x7 x8 f1 f2 f3 f4 f5 f6 f7 f8 = f2 refl refl
choices text false false false true quote hash star line x1 x2 x3 x4 x5 x6 x7 x8 f1 f2 f3 f4 f5 f6 f7 f8 = f3 refl refl
choices text false false false false true hash star line x1 x2 x3 x4 x5 x6 x7 x8 f1 f2 f3 f4 f5 f6 f7 f8 = f4
choices text false false false false false true star line x1 x2 x3 x4 x5 x6 x7 x8 f1 f2 f3 f4 f5 f6 f7 f8 = f5 refl refl
choices text false false false false false false true line x1 x2 x3 x4 x5 x6 x7 x8 f1 f2 f3 f4 f5 f6 f7 f8 = f6 refl
choices text false false false false false false false true x1 x2 x3 x4 x5 x6 x7 x8 f1 f2 f3 f4 f5 f6 f7 f8 = f7 refl refl
choices text false false false false false false false false x1 x2 x3 x4 x5 x6 x7 x8 f1 f2 f3 f4 f5 f6 f7 f8 = f8 refl

some_byte : (text : List ℕ) → eqb (length text) 0 ≡ false → 0 < length text
some_byte [] h = cc
some_byte (a ∷ text) h = omega arith

begins_fits : (at : ℕ) (bare : Bool) (text : List ℕ) → Fits text (begins at bare text)
unfolding begins
begins_fits at bare text =
    let a = get_or text 0 0 in let b = get_or text 1 0 in
    choices text (eqb (length text) 0) (is_blank a) (is_name_start a) (is_ascii_digit a) (eqb a 39) (eqb a 35) (eqb a 47 && eqb b 42) (eqb a 47 && eqb b 47)
    (gap 1) (word_piece at text) (number_piece text) (character text) (cond bare (skipped_line text) None) (comment text) (line_comment text) (sign_of text)
    (λ n _. (omega arith, some_byte text n))
    (λ n h. word_fits at text (some_byte text n) h)
    (λ n h. number_fits text (some_byte text n) h)
    (character_fits text)
    (λ n h. either text bare (skipped_line text) None (λ _. skipped_fits text (some_byte text n) h) (λ _. tt))
    (λ h. comment_fits text (right_of (eqb a 47) (eqb b 42) h))
    (λ n h. line_comment_fits text (some_byte text n) (left_of (eqb a 47) (eqb b 47) h))
    (λ n. sign_fits text (some_byte text n))

-- ## Each source has an answer

module _ (source : List ℕ) (most : ℕ) where
  abbrev HasAnswer : Type 0
  HasAnswer = (answer : Result (List Token) Refusal) × Lexes most source answer

  whole : (k : ℕ) (r : Reading) → reading source k ≡ Some r → r.at ≡ length source → HasAnswer
  whole k r read all =
      (checked most (with_first_names source [] r.tokens), spells (record { pieces = k; last = r; read = read; whole = all; spelled = refl }))

  -- an answer from where a reading stands, if so many bytes are left at most
  answer_from : (left k : ℕ) (r : Reading) → reading source k ≡ Some r → r.at ≤ length source → length source ≤ r.at + left → HasAnswer
  unfolding reading next_reading
  answer_from zero k r read within enough = whole k r read (omega arith)
  answer_from (suc left) k r read within enough =
      by_order (cases_lt r.at (length source)) (begins r.at r.bare (drop r.at source)) refl (begins_fits r.at r.bare (drop r.at source)) (λ p. answer_from left (suc k) (read_past source r p))
    where
      by_order : (r.at < length source) ⊎ (length source ≤ r.at) → (o : Option Piece) → begins r.at r.bare (drop r.at source) ≡ o → Fits (drop r.at source) o
          → ((p : Piece) → reading source (suc k) ≡ Some (read_past source r p) → r.at + p.length ≤ length source → length source ≤ r.at + p.length + left → HasAnswer) → HasAnswer
      by_order (inr more) o e fits go = whole k r read (omega arith)
      by_order (inl less) None e fits go = (Err (lexical r.place), stops (record { pieces = k; last = r; read = read; inside = less; stopped = e; here = refl }))
      by_order (inl less) (Some p) e fits go =
          let rest = length-drop r.at source in
          go p (ap (option_and_then (next_reading source)) read ∙ ap (option_map (read_past source r)) e) (omega arith) (omega arith)

  pub some_answer : HasAnswer
  unfolding reading
  some_answer = answer_from (length source) 0 at_start refl (omega arith) (omega arith)
