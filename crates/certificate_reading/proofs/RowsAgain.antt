-- Lines of values are kept, and read again.
use Rattle.std.proofs.Common.{◌≡◌, refl, sym, ap, subst, ◌∙◌, ℕ, ◌+◌, ◌-◌, ◌≤◌, List, [], ◌∷◌, ◌++◌, length, take}
use Rattle.std.proofs.Common.{append_assoc, Option, Some, None, lit≤, arith}
use Rattle.std.specs.Prelude.{codes, IfSome, option_to_list}
use Rattle.tm_laid.specs.Layouts.{LaidTree}
use Rattle.pointer_dom.specs.Values.{Values}
use Rattle.temporary_extents.specs.declared.extents.Extent.{Extent}
use Rattle.post_recheck.specs.state_fits.Kinds.{InExtents}
use Rattle.certificate_words.specs.Words.{Word, word_text, IsWord, AreWords, Line, words_onto, line_onto}
use Rattle.certificate_words.specs.Lines.{HasNoLine, IsNextLine}
use Rattle.certificate_words.proofs.OneText as texts
use Rattle.certificate_parts.specs.Fronts.{AreFront, IsBehind}
use Rattle.certificate_parts.specs.Runs.{lines_onto, IsStep, IsStuck}
use Rattle.certificate_parts.specs.Rows.{IsTag}
use Rattle.certificate_reading.specs.Rows.{value_line, value_row, FitsRow, AnyText}
use Rattle.certificate_reading.specs.declared.kept_rows.KeptRow.{KeptRow}
use Rattle.certificate_reading.specs.declared.kept_rows.ReadRow.{ReadRow}
use Rattle.certificate_reading.specs.reading.KeptRows.{values_of, IsTakenOver, IsKeptRow, AreKeptRows, IsReadAgain}
use Rattle.certificate_reading.proofs.RowsOfValues.{row_lawful}

-- ## Texts in front of others

words_before : (w : Word) (ws : List Word) (text more : List ℕ)
    → words_onto w ws text ++ more ≡ words_onto w ws (text ++ more)
words_before w [] text more = append_assoc (word_text w) (10 ∷ text) more
words_before w (v ∷ ws) text more =
    append_assoc (word_text w) (32 ∷ words_onto v ws text) more
    ∙ ap (λ t. word_text w ++ (32 ∷ t)) (words_before v ws text more)

pub line_before : (l : Line) (text more : List ℕ) → line_onto l text ++ more ≡ line_onto l (text ++ more)
line_before l text more = words_before l.first l.rest text more

pub lines_before : (ls : List Line) (text more : List ℕ) → lines_onto ls text ++ more ≡ lines_onto ls (text ++ more)
lines_before [] text more = refl
lines_before (l ∷ ls) text more =
    line_before l (lines_onto ls text) more ∙ ap (line_onto l) (lines_before ls text more)

length_both : (a b : List ℕ) → length (a ++ b) ≡ length a + length b
length_both [] b = omega arith
length_both (x ∷ a) b = let h = length_both a b in omega (arith, h)

take_front : (a b : List ℕ) → take (length a) (a ++ b) ≡ a
take_front [] b = refl
take_front (x ∷ a) b = ap (λ t. x ∷ t) (take_front a b)

-- what stands before the rest
pub front_is : (text a rest : List ℕ) → text ≡ a ++ rest → take (length text - length rest) text ≡ a
front_is text a rest e =
    let n : length text ≡ length a + length rest = ap length e ∙ length_both a rest in
    let m : length text - length rest ≡ length a = omega (arith, n) in
    ap (λ k. take k text) m ∙ (ap (take (length a)) e ∙ take_front a rest)

pub rest_is_short : (text a rest : List ℕ) → text ≡ a ++ rest → length rest ≤ length text
rest_is_short text a rest e =
    let n : length text ≡ length a + length rest = ap length e ∙ length_both a rest in omega (arith, n)

-- ## One line

module _ (letters : List ℕ) (tagged : IsTag letters) (Fits : ℕ → Values → Type 0) (key : ℕ) (v : Values) where
  -- the bytes of the line
  pub line_alone : (text more : List ℕ) → IsStep (value_row letters) (FitsRow Fits) AnyText key text v more
      → text ≡ line_onto (value_line letters key v) [] ++ more
  line_alone text more step = step.is ∙ sym (line_before (value_line letters key v) [] more)

  -- what a line of a text tells, its bytes tell alone
  pub kept_alone : (text line more : List ℕ) → IsStep (value_row letters) (FitsRow Fits) AnyText key text v more
      → line ≡ take (length text - length more) text
      → IsStep (value_row letters) (FitsRow Fits) AnyText key line v []
  kept_alone text line more step cut =
      let V = value_line letters key v in
      let alone : line ≡ line_onto V [] = cut ∙ front_is text (line_onto V []) more (line_alone text more step) in
      record {
        fits = step.fits;
        is = alone;
        one = λ y m f a e.
            (let same = texts.line (value_line letters key y) V m [] (row_lawful letters tagged Fits key y f)
            (row_lawful letters tagged Fits key v step.fits) (sym e ∙ alone) in
            let w = step.one y more f tt (step.is ∙ ap (λ l. line_onto l more) (sym same.0)) in
            (w.0, same.1));
      }

  -- what bytes tell alone, they tell in front of a text
  pub taken_again : (text line more : List ℕ) → IsStep (value_row letters) (FitsRow Fits) AnyText key line v []
      → text ≡ line ++ more → IsStep (value_row letters) (FitsRow Fits) AnyText key text v more
  taken_again text line more step front =
      let V = value_line letters key v in
      let is : text ≡ line_onto V more = front ∙ (ap (λ l. l ++ more) step.is ∙ line_before V [] more) in
      record {
        fits = step.fits;
        is = is;
        one = λ y m f a e.
            (let same = texts.line (value_line letters key y) V m more (row_lawful letters tagged Fits key y f)
            (row_lawful letters tagged Fits key v step.fits) (sym e ∙ is) in
            let w = step.one y [] f tt (step.is ∙ ap (λ l. line_onto l []) (sym same.0)) in
            (w.0, same.1));
      }

-- ## A line that is read

-- the first line of a text, and what stands behind it
pub front_of : (text rest : List ℕ) (words : List Word) → IsNextLine text words rest → AreFront text words
front_of text rest [] next = let e = next.words_are in absurd (cc)
front_of text rest (w ∷ ws) next =
    let e = next.words_are in
    let a : next.line.first ≡ w = cc in
    let b : next.line.rest ≡ ws = cc in
    record {
      first = subst IsWord a next.lawful.0;
      others = subst AreWords b next.lawful.1;
      rest = rest;
      is = next.text_is ∙ (λ i. words_onto (a i) (b i) rest);
    }

pub behind_of : (text rest : List ℕ) (words : List Word) → IsNextLine text words rest → IsBehind text rest
behind_of text rest words next =
    record {
      passes = λ line more lawful e. (texts.line next.line line rest more next.lawful lawful (sym next.text_is ∙ e)).1;
    }

pub no_line : (letters : List ℕ) (is_tag : IsTag letters) (Fits : ℕ → Values → Type 0) (key : ℕ) (text : List ℕ)
    → HasNoLine text → IsStuck (value_row letters) (FitsRow Fits) AnyText key text
no_line letters is_tag Fits key text none =
    record {
      never = λ y more f a e.
          none.never (value_line letters key y) more (row_lawful letters is_tag Fits key y f) e;
    }

pub c_is : IsTag (codes "c")
c_is = (lit≤ tt, lit≤ tt, tt)

-- the kept line stands there again
pub taken_row : (laid : LaidTree) (extents : List Extent) (text : List ℕ) (cell : ℕ) (kept : Option KeptRow)
    (found : ReadRow) → IsTakenOver text cell kept found → IfSome kept (IsKeptRow laid extents)
    → IsReadAgain laid extents cell text (Some found)
taken_row laid extents text cell kept found taken holds =
    let row : IsKeptRow laid extents found.row = subst (λ k. IfSome k (IsKeptRow laid extents)) taken.kept_is holds in
    let step = taken_again (codes "c") c_is (InExtents laid extents) found.row.cell found.row.value text
    found.row.line.now found.more.now row taken.is in (
      subst (λ k. IsStep (value_row (codes "c")) (FitsRow (InExtents laid extents)) AnyText k text found.row.value
          found.more.now) taken.of_cell step,
      row,
    )

-- ## Lines one after another

-- what is left of kept lines, and the first of them
pub next_kept : (laid : LaidTree) (extents : List Extent) (old new : List KeptRow) (next : Option KeptRow)
    → old ≡ option_to_list next ++ new → AreKeptRows laid extents old
    → IfSome next (IsKeptRow laid extents) × AreKeptRows laid extents new
next_kept laid extents old new None e all = (tt, subst (AreKeptRows laid extents) e all)
next_kept laid extents old new (Some r) e all = subst (AreKeptRows laid extents) e all

pub values_pushed : (rows now : List KeptRow) (r : KeptRow) → now ≡ rows ++ r ∷ []
    → values_of now ≡ values_of rows ++ r.value ∷ []
values_pushed rows now r e = ap values_of e ∙ values_last rows r
  where
    values_last : (rs : List KeptRow) (r : KeptRow) → values_of (rs ++ r ∷ []) ≡ values_of rs ++ r.value ∷ []
    values_last [] r = refl
    values_last (s ∷ rs) r = ap (λ vs. s.value ∷ vs) (values_last rs r)

pub values_length : (rows : List KeptRow) → length (values_of rows) ≡ length rows
values_length [] = refl
values_length (r ∷ rows) = let h = values_length rows in omega (arith, h)

module _ (laid : LaidTree) (extents : List Extent) where
  pub rows_more : (rows now : List KeptRow) (r : KeptRow) → now ≡ rows ++ r ∷ [] → AreKeptRows laid extents rows
      → IsKeptRow laid extents r → AreKeptRows laid extents now
  rows_more rows now r e all one = subst (AreKeptRows laid extents) (sym e) (rows_last rows all)
    where
      rows_last : (rs : List KeptRow) → AreKeptRows laid extents rs → AreKeptRows laid extents (rs ++ r ∷ [])
      rows_last [] h = (one, tt)
      rows_last (s ∷ rs) h = (h.0, rows_last rs h.1)
