-- Composed texts: a byte from 13 to 31 stands for markup, each other byte for itself.
use Rattle.std.specs.Prelude.{ℕ, List, [], ◌∷◌, map, Option, Some, None}
use Rattle.page_pieces.specs.Markup.{markup_of}
use Rattle.page_pieces.specs.Pieces.{Piece, fixed, said}
use Rattle.page_pieces.specs.declared.markup.Markup.{Markup}

abbrev pub piece_for : ℕ → Option Markup → Piece
piece_for b (Some markup) = fixed markup
piece_for b None = said (b ∷ [])

abbrev pub composed_piece : ℕ → Piece
composed_piece b = piece_for b (markup_of b)

-- the pieces of a composed text
abbrev pub composed : List ℕ → List Piece
composed text = map composed_piece text
