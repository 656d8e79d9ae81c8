-- No piece but the first of a row begins one.
use Rattle.std.proofs.Common.{◌≡◌, ◌∙◌, ℕ, zero, suc, ◌+◌, ◌-◌, ◌==◌, ◌||◌, Bool, true, false, cond, List, [], ◌∷◌, ◌++◌, length, drop}
use Rattle.std.proofs.Common.{append_assoc, arith, refl, sym, ap, nat_lt, None, decimal}
use Rattle.std.specs.Prelude.{slice_get, slice_index}
use Rattle.page_pieces.specs.Composed.{composed, composed_piece, piece_for}
use Rattle.page_pieces.specs.Markup.{composed_markup}
use Rattle.page_pieces.specs.Pieces.{Piece, fixed, said}
use Rattle.page_pieces.specs.declared.markup.Markup.{Markup}
use Rattle.page_pieces.specs.declared.markup.Markup.TheVariants.{AlarmEnd, Line, Noted, Opened, Unreached}
use Rattle.page_pieces.specs.declared.markup.Markup.TheVariants.{Number, Code, LineEnd, Hidden, HiddenEnd, End}
use Rattle.source_marks.specs.Marks.{Origin, lines_of}
use Rattle.report_views.specs.Spots.{Spot}
use Rattle.report_views.specs.declared.spots.Finding.{Finding}
use Rattle.report_pages.specs.Laws.{AllListed, is_row, rows_in}
use Rattle.report_pages.specs.Pages.{Texts, source_pieces}
use Rattle.report_pages.specs.Rows.{alarm_row, alarm_rows, first_of, rest_of}
use Rattle.report_pages.specs.Sources.{line_pieces, line_rows, line_start}
use Rattle.report_pages.proofs.Found.{as_many_spots}

-- some of these begin a row
any_row : List Markup → Bool
any_row [] = false
any_row (markup ∷ markups) = is_row (fixed markup) || any_row markups

first_none : (a b : Bool) → (a || b) ≡ false → a ≡ false
first_none true b e = e
first_none false b e = refl

rest_none : (a b : Bool) → (a || b) ≡ false → b ≡ false
rest_none true b e = cc
rest_none false b e = e

composed_without : any_row composed_markup ≡ false
unfolding any_row composed_markup
composed_without = refl

none_at : (b : ℕ) (markups : List Markup) (k : ℕ) → any_row markups ≡ false
    → is_row (piece_for b (slice_get markups k)) ≡ false
unfolding any_row
none_at b [] k e = refl
none_at b (markup ∷ markups) zero e = first_none (is_row (fixed markup)) (any_row markups) e
none_at b (markup ∷ markups) (suc k) e =
    none_at b markups k (rest_none (is_row (fixed markup)) (any_row markups) e)

none_for : (b k : ℕ) (early : Bool) → is_row (piece_for b (cond early None (slice_get composed_markup k))) ≡ false
none_for b k true = refl
none_for b k false = none_at b composed_markup k composed_without

byte_none : (b : ℕ) → is_row (composed_piece b) ≡ false
byte_none b = none_for b (b - 13) (nat_lt b 13)

composed_none : (text : List ℕ) (rest : List Piece) → rows_in (composed text ++ rest) ≡ rows_in rest
composed_none [] rest = refl
composed_none (b ∷ text) rest = rw (byte_none b) (composed_none text rest)

row_one : (number : ℕ) (spot : Spot) (note : List ℕ) (rest : List Piece)
    → rows_in (alarm_row number spot note ++ rest) ≡ rows_in rest + 1
row_one number spot note rest =
    ap (λ ps. rows_in ps + 1) (append_assoc (composed note) (fixed AlarmEnd ∷ []) rest)
    ∙ ap (λ n. n + 1) (composed_none note (fixed AlarmEnd ∷ rest))

rows_all : (findings : List Finding) (spots : List Spot) (notes : List (List ℕ)) (rest : List Piece)
    → length findings ≡ length spots → rows_in (alarm_rows findings spots notes ++ rest) ≡ rows_in rest + length findings
rows_all [] spots notes rest same = omega arith
rows_all (finding ∷ findings) [] notes rest same = absurd (omega arith)
rows_all (finding ∷ findings) (spot ∷ spots) notes rest same =
    let others = rows_all findings spots (rest_of notes) rest (omega arith) in
    let one = row_one finding.place.line spot (first_of notes) (alarm_rows findings spots (rest_of notes) ++ rest) in
    ap rows_in (append_assoc (alarm_row finding.place.line spot (first_of notes))
    (alarm_rows findings spots (rest_of notes)) rest) ∙ one ∙ (omega arith)

line_none : (number line : ℕ) (shown : List ℕ) (unreached noted opened is_shown : Bool) (rest : List Piece)
    → rows_in (cond is_shown
    (fixed (cond unreached Unreached (cond noted Noted (cond opened Opened Line))) ∷ said (decimal number) ∷ fixed Number
    ∷ said (decimal line) ∷ fixed Code ∷ said (drop 1 shown) ∷ fixed LineEnd ∷ [])
    (fixed Hidden ∷ said (decimal number) ∷ fixed HiddenEnd ∷ []) ++ rest) ≡ rows_in rest
line_none number line shown true noted opened true rest = refl
line_none number line shown false true opened true rest = refl
line_none number line shown false false true true rest = refl
line_none number line shown false false false true rest = refl
line_none number line shown unreached noted opened false rest = refl

lines_none : (number : ℕ) (origins : List Origin) (lines remarks : List (List ℕ)) (rest : List Piece)
    → rows_in (line_rows number origins lines remarks ++ rest) ≡ rows_in rest
lines_none number [] lines remarks rest = refl
lines_none number (origin ∷ origins) lines remarks rest =
    let remark = first_of remarks in
    let shown = line_pieces (line_start remark) number origin.line (first_of lines) in
    let behind = line_rows (number + 1) origins (rest_of lines) (rest_of remarks) in
    ap rows_in (append_assoc (shown ++ composed remark) behind rest
    ∙ append_assoc shown (composed remark) (behind ++ rest))
    ∙ line_none number origin.line (first_of lines) (slice_index remark 0 == 16) (slice_index remark 0 == 30)
    (slice_index remark 0 == 13) (slice_index (first_of lines) 0 == 43) (composed remark ++ (behind ++ rest))
    ∙ composed_none remark (behind ++ rest)
    ∙ lines_none (number + 1) origins (rest_of lines) (rest_of remarks) rest

sources_none : (texts : Texts) (origins : List Origin) → rows_in (source_pieces texts origins) ≡ 0
sources_none texts origins = lines_none 1 origins (lines_of texts.lines) (lines_of texts.remarks) (fixed End ∷ [])

pub all_listed : AllListed
all_listed texts origins findings spots placed =
    let list = rows_all findings spots (lines_of texts.notes) (source_pieces texts origins)
    (sym (as_many_spots origins findings spots placed)) in
    let none = sources_none texts origins in
    ap rows_in (append_assoc (composed texts.tables) _ (source_pieces texts origins))
    ∙ composed_none texts.tables _ ∙ list ∙ (omega arith)
