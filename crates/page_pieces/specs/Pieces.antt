-- A page as a list of pieces: each is markup of this crate, or a text, which is escaped (HTML, 13.1.4 and 13.5).
use Rattle.std.specs.Prelude.{ℕ, ◌==◌, List, [], ◌∷◌, codes, if◌then◌else◌}
use Rattle.std.specs.List.{flat_map}
use Rattle.page_pieces.specs.Markup.{markup_text}
use Rattle.page_pieces.specs.declared.markup.Markup.{Markup}

pub data Piece : Type 0 where
  fixed : Markup → Piece
  said : List ℕ → Piece

-- `&`, `<`, `>` and both quotes stand as character references, and any other byte as it is
abbrev pub escaped_byte : ℕ → List ℕ
escaped_byte b =
    if b == 38 then codes "&amp;"
    else (if b == 60 then codes "&lt;"
    else (if b == 62 then codes "&gt;"
    else (if b == 34 then codes "&quot;"
    else (if b == 39 then codes "&#39;"
    else b ∷ []))))

abbrev pub escaped : List ℕ → List ℕ
escaped text = flat_map escaped_byte text

-- what stands on the page for a piece
abbrev pub piece_text : Piece → List ℕ
piece_text (fixed markup) = markup_text markup
piece_text (said text) = escaped text

-- what stands on the page for pieces
abbrev pub page_text : List Piece → List ℕ
page_text pieces = flat_map piece_text pieces
