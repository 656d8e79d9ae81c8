-- Names among the tokens of a source are equal exactly where their texts are.
use Rattle.std.proofs.Common.{◌≡◌, ℕ, zero, suc, ◌+◌, ◌<◌, Bool, true, false, cond, eqb, ◌&&◌, ◌||◌, List, [], ◌∷◌, ◌++◌, length, get_or, take, drop, Option, Some, None, refl, sym, ap, subst, ◌∙◌, arith}
use Rattle.std.specs.Prelude.{option_map, option_and_then, IfSome, bytes_eq, unwrap_or, ◌↔◌}
use Rattle.std.specs.List.{prefix_len}
use Rattle.std.specs.Char.{is_ascii_digit}
use Rattle.std.proofs.lemmas.List.{length-take}
use Rattle.std.specs.Bool.{Decides}
use Rattle.std.proofs.lemmas.Slice.Eq.{bytes_eq-Decides}
use Rattle.tm_terms.specs.Lexis.{is_name_start, is_name_byte, is_number_byte, behind, front, gap, token, word_of, word_or_name, word_piece, constant_of, number_piece, char_value, quoted, character_in, character, is_skipped_word, skipped_line, comment_end, comment, line_comment, longest_sign, sign_of, begins}
use Rattle.tm_terms.specs.Splices.{is_blank, is_in_line, is_blank_in_line, is_other_line, leaves_open}
use Rattle.tm_terms.specs.Spelling.{Reading, at_start, read_past, next_reading, reading, token_of, start_of, noted_at, text_of, noted, told, with_first_names, IsNameAmong, Spells}
use Rattle.tm_terms.specs.declared.tokens.Name.{Name}
use Rattle.tm_terms.specs.declared.tokens.Piece.{Piece}
use Rattle.tm_terms.specs.declared.tokens.Shape.{Shape}
use Rattle.tm_terms.specs.declared.tokens.Shape.TheVariants as shape
use Rattle.tm_terms.specs.declared.tokens.Sign.{Sign}
use Rattle.tm_terms.specs.declared.tokens.Word.{Word}
use Rattle.tm_terms.specs.declared.tokens.Token.{Token}

-- ## A fact of each name among tokens

abbrev pub OfName : (Name → Type 0) → Shape → Type 0
OfName P (shape.Name n) = P n
OfName P (shape.Word w) = Unit {0}
OfName P (shape.Integer c) = Unit {0}
OfName P (shape.Character v) = Unit {0}
OfName P (shape.Sign s) = Unit {0}

abbrev pub EachName : (Name → Type 0) → List Token → Type 0
EachName P [] = Unit {0}
EachName P (t ∷ tokens) = OfName P t.shape × EachName P tokens

EachName-append : (P : Name → Type 0) (xs ys : List Token) → EachName P xs → EachName P ys → EachName P (xs ++ ys)
EachName-append P [] ys h k = k
EachName-append P (x ∷ xs) ys h k = (h.0, EachName-append P xs ys h.1 k)

EachName-at : (P : Name → Type 0) (tokens : List Token) (k : ℕ) (t : Token) → EachName P tokens → k < length tokens → get_or tokens k t ≡ t → OfName P t.shape
EachName-at P [] k t h inside is = absurd (omega arith)
EachName-at P (x ∷ tokens) zero t h inside is = rw is at h.0
EachName-at P (x ∷ tokens) (suc k) t h inside is = EachName-at P tokens k t h.1 (omega arith) is

EachName-among : (P : Name → Type 0) (tokens : List Token) (n : Name) → EachName P tokens → IsNameAmong tokens n → P n
EachName-among P tokens n h among =
    EachName-at P tokens among.among.0 (record { shape = shape.Name n; place = among.place }) h among.among.1 among.among.2

-- ## Where what begins is a name, it is as long as it says

abbrev IsNameFrom : ℕ → List ℕ → Name → Type 0
IsNameFrom at text n = (n.start ≡ at) × (n.length ≡ length (front is_name_byte text))

abbrev Named : ℕ → List ℕ → Option Shape → Type 0
Named at text None = Unit {0}
Named at text (Some s) = OfName (IsNameFrom at text) s

abbrev NamedPiece : ℕ → List ℕ → Option Piece → Type 0
NamedPiece at text o = IfSome o (λ p. Named at text p.shape)

either : (P : Option Piece → Type 0) (b : Bool) (x y : Option Piece) → P x → P y → P (cond b x y)
either P true x y f g = f
either P false x y f g = g

word_named : (at : ℕ) (text : List ℕ) → NamedPiece at text (word_piece at text)
unfolding word_piece
word_named at text = by_word (word_of (front is_name_byte text)) refl
  where
    by_word : (o : Option Word) → word_of (front is_name_byte text) ≡ o → OfName (IsNameFrom at text) (word_or_name at (front is_name_byte text))
    by_word None e = rw e (refl, refl)
    by_word (Some w) e = rw e tt

number_named : (at : ℕ) (text : List ℕ) → NamedPiece at text (number_piece text)
unfolding number_piece
number_named at text = elim (constant_of (front is_number_byte text)) as (λ o. NamedPiece at text (option_map (λ c. record { shape = Some (shape.Integer c); length = prefix_len is_number_byte text }) o)) [ None ↦ tt | Some c ↦ tt ]

character_named : (at : ℕ) (text : List ℕ) → NamedPiece at text (character text)
unfolding character
character_named at text = by_inside (character_in (drop 1 text))
  where
    by_inside : (o : Option (ℕ × ℕ)) → NamedPiece at text (option_and_then (quoted text) o)
    by_inside None = tt
    by_inside (Some c) = either (NamedPiece at text) (eqb (get_or text (c.1 + 1) 0) 39) (token (shape.Character (char_value c.0)) (c.1 + 2)) None tt tt

skipped_named : (at : ℕ) (text : List ℕ) → NamedPiece at text (skipped_line text)
unfolding skipped_line
skipped_named at text =
    let P = NamedPiece at text in
    let goes_on = is_other_line text || leaves_open (front is_in_line text) in
    let line = gap (prefix_len is_in_line text) in
    either P (is_skipped_word (front is_name_byte (behind is_blank_in_line (drop 1 text)))) (cond goes_on None line) None (either P goes_on None line tt tt) tt

line_comment_named : (at : ℕ) (text : List ℕ) → NamedPiece at text (line_comment text)
line_comment_named at text = either (NamedPiece at text) (is_other_line text) None (gap (prefix_len is_in_line text)) tt tt

comment_named : (at : ℕ) (text : List ℕ) → NamedPiece at text (comment text)
unfolding comment
comment_named at text = elim (comment_end 2 (drop 2 text)) as (λ o. NamedPiece at text (option_and_then gap o)) [ None ↦ tt | Some n ↦ tt ]

signs_named : (at : ℕ) (text : List ℕ) (x y z : Option Sign) → NamedPiece at text (longest_sign x y z)
signs_named at text (Some s) y z = tt
signs_named at text None (Some s) z = tt
signs_named at text None None (Some s) = tt
signs_named at text None None None = tt

sign_named : (at : ℕ) (text : List ℕ) → NamedPiece at text (sign_of text)
unfolding sign_of
sign_named at text = signs_named at text _ _ _

begins_named : (at : ℕ) (bare : Bool) (text : List ℕ) → NamedPiece at text (begins at bare text)
unfolding begins
begins_named at bare text =
    let a = get_or text 0 0 in let b = get_or text 1 0 in let P = NamedPiece at text in
    either P (eqb (length text) 0) _ _ tt (
    either P (is_blank a) _ _ tt (
    either P (is_name_start a) _ _ (word_named at text) (
    either P (is_ascii_digit a) _ _ (number_named at text) (
    either P (eqb a 39) _ _ (character_named at text) (
    either P (eqb a 35) _ _ (either P bare _ _ (skipped_named at text) tt) (
    either P (eqb a 47 && eqb b 42) _ _ (comment_named at text) (
    either P (eqb a 47 && eqb b 47) _ _ (line_comment_named at text) (sign_named at text))))))))

from_some : {A : Type 0} {x y : A} → Some x ≡ Some y → x ≡ y
from_some e = cc

module _ (source : List ℕ) where
  -- all bytes of a name stand in the source
  abbrev pub IsWhole : Name → Type 0
  IsWhole n = length (text_of source n) ≡ n.length

  whole_from : (at : ℕ) (n : Name) → IsNameFrom at (drop at source) n → IsWhole n
  whole_from at n is =
      let text = drop at source in
      let same : text_of source n ≡ take (length (front is_name_byte text)) text = ap (λ k. take n.length (drop k source)) is.0 ∙ ap (λ k. take k text) is.1 in
      ap length same ∙ length-take (length (front is_name_byte text)) text ∙ omega (arith, length-take (prefix_len is_name_byte text) text, is.1)

  whole_piece : (at : ℕ) (place : _) (s : Option Shape) → Named at (drop at source) s → EachName IsWhole (token_of place s)
  whole_piece at place None h = tt
  whole_piece at place (Some (shape.Name n)) h = (whole_from at n h, tt)
  whole_piece at place (Some (shape.Word w)) h = (tt, tt)
  whole_piece at place (Some (shape.Integer c)) h = (tt, tt)
  whole_piece at place (Some (shape.Character v)) h = (tt, tt)
  whole_piece at place (Some (shape.Sign s)) h = (tt, tt)

  read_whole : (k : ℕ) (r : Reading) → reading source k ≡ Some r → EachName IsWhole r.tokens
  unfolding reading next_reading
  read_whole zero r e = let same : at_start ≡ r = from_some e in subst (λ (q : Reading). EachName IsWhole q.tokens) same tt
  read_whole (suc k) r e = by_reading (reading source k) refl e (read_whole k)
    where
      by_piece : (q : Reading) (o : Option Piece) → EachName IsWhole q.tokens → NamedPiece q.at (drop q.at source) o → option_map (read_past source q) o ≡ Some r → EachName IsWhole r.tokens
      by_piece q None h named e = cc
      by_piece q (Some p) h named e =
          let same : read_past source q p ≡ r = from_some e in
          subst (λ (s : Reading). EachName IsWhole s.tokens) same (EachName-append IsWhole q.tokens (token_of q.place p.shape) h (whole_piece q.at q.place p.shape named))

      by_reading : (o : Option Reading) → reading source k ≡ o → option_and_then (next_reading source) o ≡ Some r
          → ((q : Reading) → reading source k ≡ Some q → EachName IsWhole q.tokens) → EachName IsWhole r.tokens
      by_reading None f e before = cc
      by_reading (Some q) f e before = by_piece q (begins q.at q.bare (drop q.at source)) (before q f) (begins_named q.at q.bare (drop q.at source)) e

  -- ## Each name is told by where the table has its text

  -- each text of a table stands where the table says
  abbrev TableHolds : List (List ℕ × ℕ) → Type 0
  TableHolds [] = Unit {0}
  TableHolds (e ∷ table) = (take (length e.0) (drop e.1 source) ≡ e.0) × TableHolds table

  looked_up : (table : List (List ℕ × ℕ)) (text : List ℕ) (start : ℕ) → TableHolds table → start_of table text ≡ Some start → take (length text) (drop start source) ≡ text
  looked_up [] text start h e = cc
  looked_up (e ∷ table) text start h is = by_case (bytes_eq e.0 text) (bytes_eq-Decides e.0 text) is (looked_up table text start h.1)
    where
      by_case : (b : Bool) → Decides b (e.0 ≡ text) → cond b (Some e.1) (start_of table text) ≡ Some start → (start_of table text ≡ Some start → take (length text) (drop start source) ≡ text) → take (length text) (drop start source) ≡ text
      by_case true d f g =
          let same : e.0 ≡ text = d.0 refl in
          let from : e.1 ≡ start = from_some f in
          subst (λ t. take (length t) (drop start source) ≡ t) same (subst (λ k. take (length e.0) (drop k source) ≡ e.0) from h.0)
      by_case false d f g = g f

  is_told_here : (text : List ℕ) (here : ℕ) (table : List (List ℕ × ℕ)) → start_of ((text, here) ∷ table) text ≡ Some here
  is_told_here text here table = let same : bytes_eq text text ≡ true = (bytes_eq-Decides text text).1 refl in rw same refl

  -- what was noted stays
  noted_stays : (table : List (List ℕ × ℕ)) (text : List ℕ) (start : ℕ) (s : Shape) → start_of table text ≡ Some start → start_of (noted source table s) text ≡ Some start
  noted_stays table text start (shape.Word w) e = e
  noted_stays table text start (shape.Integer c) e = e
  noted_stays table text start (shape.Character v) e = e
  noted_stays table text start (shape.Sign s) e = e
  noted_stays table text start (shape.Name n) e = by_known (start_of table (text_of source n)) refl
    where
      by_text : (b : Bool) → Decides b (text_of source n ≡ text) → start_of table (text_of source n) ≡ None → cond b (Some n.start) (start_of table text) ≡ Some start
      by_text true d none = let same : text_of source n ≡ text = d.0 refl in let gone : start_of table text ≡ None = rw same at none in cc
      by_text false d none = e

      by_known : (o : Option ℕ) → start_of table (text_of source n) ≡ o → start_of (noted_at table (text_of source n) n.start) text ≡ Some start
      by_known None f = rw f (by_text (bytes_eq (text_of source n) text) (bytes_eq-Decides (text_of source n) text) f)
      by_known (Some k) f = rw f e

  -- the table behind some tokens
  table_after : List (List ℕ × ℕ) → List Token → List (List ℕ × ℕ)
  table_after table [] = table
  table_after table (t ∷ tokens) = table_after (noted source table t.shape) tokens

  stays : (table : List (List ℕ × ℕ)) (tokens : List Token) (text : List ℕ) (start : ℕ) → start_of table text ≡ Some start → start_of (table_after table tokens) text ≡ Some start
  unfolding table_after
  stays table [] text start e = e
  stays table (t ∷ tokens) text start e = stays (noted source table t.shape) tokens text start (noted_stays table text start t.shape e)

  noted_holds : (table : List (List ℕ × ℕ)) (s : Shape) → TableHolds table → OfName IsWhole s → TableHolds (noted source table s)
  noted_holds table (shape.Word w) h whole = h
  noted_holds table (shape.Integer c) h whole = h
  noted_holds table (shape.Character v) h whole = h
  noted_holds table (shape.Sign s) h whole = h
  noted_holds table (shape.Name n) h whole = by_known (start_of table (text_of source n)) refl
    where
      by_known : (o : Option ℕ) → start_of table (text_of source n) ≡ o → TableHolds (noted_at table (text_of source n) n.start)
      by_known None f = rw f (ap (λ k. take k (drop n.start source)) whole, h)
      by_known (Some k) f = rw f h

  -- a name that was told: its text is as long as it says, and the table has it with its start
  abbrev IsTold : List (List ℕ × ℕ) → Name → Type 0
  IsTold table n = (start_of table (text_of source n) ≡ Some n.start) × IsWhole n

  told_name : (table : List (List ℕ × ℕ)) (n : Name) → TableHolds table → IsWhole n → OfName (IsTold (noted source table (shape.Name n))) (told source table (shape.Name n))
  told_name table n h whole = by_known (start_of table (text_of source n)) refl
    where
      by_known : (o : Option ℕ) → start_of table (text_of source n) ≡ o → IsTold (noted_at table (text_of source n) n.start) (record { start = unwrap_or (start_of table (text_of source n)) n.start; length = n.length })
      by_known None f = rw f (is_told_here (text_of source n) n.start table, whole)
      by_known (Some k) f =
          let there : take n.length (drop k source) ≡ text_of source n = ap (λ m. take m (drop k source)) (sym whole) ∙ looked_up table (text_of source n) k h f in
          rw f (ap (start_of table) there ∙ f, ap length there ∙ whole)

  told_stays : (table : List (List ℕ × ℕ)) (tokens : List Token) (s : Shape) → OfName (IsTold table) s → OfName (IsTold (table_after table tokens)) s
  told_stays table tokens (shape.Name n) h = (stays table tokens (text_of source n) n.start h.0, h.1)
  told_stays table tokens (shape.Word w) h = tt
  told_stays table tokens (shape.Integer c) h = tt
  told_stays table tokens (shape.Character v) h = tt
  told_stays table tokens (shape.Sign s) h = tt

  told_shape : (table : List (List ℕ × ℕ)) (s : Shape) → TableHolds table → OfName IsWhole s → OfName (IsTold (noted source table s)) (told source table s)
  told_shape table (shape.Name n) h whole = told_name table n h whole
  told_shape table (shape.Word w) h whole = tt
  told_shape table (shape.Integer c) h whole = tt
  told_shape table (shape.Character v) h whole = tt
  told_shape table (shape.Sign s) h whole = tt

  all_told : (table : List (List ℕ × ℕ)) (tokens : List Token) → TableHolds table → EachName IsWhole tokens → EachName (IsTold (table_after table tokens)) (with_first_names source table tokens)
  unfolding with_first_names table_after
  all_told table [] h whole = tt
  all_told table (t ∷ tokens) h whole =
      (told_stays (noted source table t.shape) tokens (told source table t.shape) (told_shape table t.shape h whole.0), all_told (noted source table t.shape) tokens (noted_holds table t.shape h whole.0) whole.1)

  -- ## The law

  same_name : (m n : Name) → m.start ≡ n.start → m.length ≡ n.length → m ≡ n
  same_name m n e f = ap (λ k. record { start = k; length = m.length }) e ∙ ap (λ k. record { start = n.start; length = k }) f

  spelled_told : (tokens : List Token) (s : Spells source tokens) (n : Name) → IsNameAmong tokens n → IsTold (table_after [] s.last.tokens) n
  spelled_told tokens s n among =
      let each : EachName (IsTold (table_after [] s.last.tokens)) tokens =
      subst (EachName (IsTold (table_after [] s.last.tokens))) (sym s.spelled) (all_told [] s.last.tokens tt (read_whole s.pieces s.last s.read)) in
      EachName-among (IsTold (table_after [] s.last.tokens)) tokens n each among

  pub name_is_whole : (tokens : List Token) → Spells source tokens → (n : Name) → IsNameAmong tokens n → length (text_of source n) ≡ n.length
  name_is_whole tokens s n among = (spelled_told tokens s n among).1

  pub names_by_text : (tokens : List Token) → Spells source tokens → (m n : Name) → IsNameAmong tokens m → IsNameAmong tokens n → (m ≡ n) ↔ (text_of source m ≡ text_of source n)
  names_by_text tokens s m n here there = (λ e. ap (text_of source) e, back)
    where
      back : text_of source m ≡ text_of source n → m ≡ n
      back e =
          let a = spelled_told tokens s m here in
          let b = spelled_told tokens s n there in
          same_name m n (from_some (sym a.0 ∙ ap (start_of (table_after [] s.last.tokens)) e ∙ b.0)) (sym a.1 ∙ ap length e ∙ b.1)
