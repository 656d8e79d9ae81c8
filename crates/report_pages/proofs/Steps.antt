-- One line more, one row more.
use Rattle.std.proofs.Common.{◌≡◌, ◌<◌, ◌+◌, ◌∙◌, ℕ, zero, suc, List, [], ◌∷◌, ◌++◌, length, get_or, drop, map, add-one}
use Rattle.std.proofs.Common.{drop-cons, append_assoc, refl, sym, ap}
use Rattle.std.specs.List.{drop-map}
use Rattle.std.proofs.lemmas.Grind.{flat_map-append}
use Rattle.source_marks.specs.Marks.{Origin}
use Rattle.page_pieces.specs.Composed.{composed}
use Rattle.page_pieces.specs.Pieces.{Piece, page_text, piece_text}
use Rattle.report_views.specs.Spots.{Spot}
use Rattle.report_views.specs.declared.spots.Finding.{Finding}
use Rattle.report_pages.specs.Rows.{alarm_row, alarm_rows, first_of, rest_of}
use Rattle.report_pages.specs.Sources.{line_pieces, line_rows, line_start}

pub next : {A : Type 0} (xs : List A) (i : ℕ) (d : A) → i < length xs → drop i xs ≡ get_or xs i d ∷ drop (i + 1) xs
next xs i d h = rw (add-one, drop-cons xs i d)

-- an item of a list, as what it is seen as
pub item_at : {A B : Type 0} (f : A → B) (xs : List A) (i : ℕ) (d : A) → i < length xs
    → drop i (map f xs) ≡ f (get_or xs i d) ∷ drop (i + 1) (map f xs)
item_at f xs i d h =
    drop-map f i xs ∙ ap (map f) (next xs i d h)
    ∙ ap (λ rest. f (get_or xs i d) ∷ rest) (sym (drop-map f (i + 1) xs))

rest_drop : (i : ℕ) (lines : List (List ℕ)) → rest_of (drop i lines) ≡ drop (suc i) lines
rest_drop zero [] = refl
rest_drop zero (line ∷ lines) = refl
rest_drop (suc i) [] = refl
rest_drop (suc i) (line ∷ lines) = rest_drop i lines

pub rest_at : (lines : List (List ℕ)) (i : ℕ) → rest_of (drop i lines) ≡ drop (i + 1) lines
rest_at lines i = rw add-one (rest_drop i lines)

pub line_more : {A : Type 0} (whole done done' rest rest' : List A) (line : A) → whole ≡ done ++ rest
    → rest ≡ line ∷ rest' → done' ≡ done ++ line ∷ [] → whole ≡ done' ++ rest'
line_more whole done done' rest rest' line so_far parts pushed =
    so_far ∙ ap (λ r. done ++ r) parts ∙ sym (append_assoc done (line ∷ []) rest')
    ∙ ap (λ d. d ++ rest') (sym pushed)

-- pieces more on the page
pub pieces_more : (whole page page' : List ℕ) (first rest : List Piece) → whole ≡ page ++ page_text (first ++ rest)
    → page' ≡ page ++ page_text first → whole ≡ page' ++ page_text rest
pieces_more whole page page' first rest so_far pushed =
    so_far ∙ ap (λ t. page ++ t) (flat_map-append piece_text first rest)
    ∙ sym (append_assoc page (page_text first) (page_text rest))
    ∙ ap (λ t. t ++ page_text rest) (sym pushed)

pub row_more : (findings : List Finding) (spots : List Spot) (notes : List (List ℕ)) (i : ℕ) (finding : Finding)
    (spot : Spot) (note whole page page' : List ℕ)
    → drop i findings ≡ finding ∷ drop (i + 1) findings → drop i spots ≡ spot ∷ drop (i + 1) spots
    → note ≡ first_of (drop i notes)
    → whole ≡ page ++ page_text (alarm_rows (drop i findings) (drop i spots) (drop i notes))
    → page' ≡ page ++ page_text (alarm_row finding.place.line spot note)
    → whole ≡ page' ++ page_text (alarm_rows (drop (i + 1) findings) (drop (i + 1) spots) (drop (i + 1) notes))
row_more findings spots notes i finding spot note whole page page' one_finding one_spot is so_far pushed =
    pieces_more whole page page' (alarm_row finding.place.line spot note)
    (alarm_rows (drop (i + 1) findings) (drop (i + 1) spots) (drop (i + 1) notes))
    (so_far
    ∙ ap (λ f. page ++ page_text (alarm_rows f (drop i spots) (drop i notes))) one_finding
    ∙ ap (λ s. page ++ page_text (alarm_rows (finding ∷ drop (i + 1) findings) s (drop i notes))) one_spot
    ∙ ap (λ r. page ++ page_text (alarm_row finding.place.line spot (first_of (drop i notes))
    ++ alarm_rows (drop (i + 1) findings) (drop (i + 1) spots) r)) (rest_at notes i)
    ∙ ap (λ n. page ++ page_text (alarm_row finding.place.line spot n
    ++ alarm_rows (drop (i + 1) findings) (drop (i + 1) spots) (drop (i + 1) notes))) (sym is))
    pushed

pub source_more : (origins : List Origin) (lines remarks : List (List ℕ)) (i : ℕ) (origin : Origin)
    (shown remark whole page page' : List ℕ)
    → drop i origins ≡ origin ∷ drop (i + 1) origins → shown ≡ first_of (drop i lines) → remark ≡ first_of (drop i remarks)
    → whole ≡ page ++ page_text (line_rows (i + 1) (drop i origins) (drop i lines) (drop i remarks))
    → page' ≡ page ++ page_text (line_pieces (line_start remark) (i + 1) origin.line shown ++ composed remark)
    → whole ≡ page' ++ page_text (line_rows (i + 1 + 1) (drop (i + 1) origins) (drop (i + 1) lines) (drop (i + 1) remarks))
source_more origins lines remarks i origin shown remark whole page page' one is_shown is_remark so_far pushed =
    pieces_more whole page page' (line_pieces (line_start remark) (i + 1) origin.line shown ++ composed remark)
    (line_rows (i + 1 + 1) (drop (i + 1) origins) (drop (i + 1) lines) (drop (i + 1) remarks))
    (so_far
    ∙ ap (λ o. page ++ page_text (line_rows (i + 1) o (drop i lines) (drop i remarks))) one
    ∙ ap (λ l. page ++ page_text ((line_pieces (line_start (first_of (drop i remarks))) (i + 1) origin.line (first_of (drop i lines))
    ++ composed (first_of (drop i remarks)))
    ++ line_rows (i + 1 + 1) (drop (i + 1) origins) l (rest_of (drop i remarks)))) (rest_at lines i)
    ∙ ap (λ r. page ++ page_text ((line_pieces (line_start (first_of (drop i remarks))) (i + 1) origin.line (first_of (drop i lines))
    ++ composed (first_of (drop i remarks)))
    ++ line_rows (i + 1 + 1) (drop (i + 1) origins) (drop (i + 1) lines) r)) (rest_at remarks i)
    ∙ ap (λ s. page ++ page_text ((line_pieces (line_start (first_of (drop i remarks))) (i + 1) origin.line s
    ++ composed (first_of (drop i remarks)))
    ++ line_rows (i + 1 + 1) (drop (i + 1) origins) (drop (i + 1) lines) (drop (i + 1) remarks))) (sym is_shown)
    ∙ ap (λ r. page ++ page_text ((line_pieces (line_start r) (i + 1) origin.line shown ++ composed r)
    ++ line_rows (i + 1 + 1) (drop (i + 1) origins) (drop (i + 1) lines) (drop (i + 1) remarks))) (sym is_remark))
    pushed
