-- Lines with the word `pragma`, and what is added where a reading of the source stands.
use Rattle.std.specs.Prelude.{◌≡◌, ◌<◌, ◌&&◌, ◌==◌, ℕ, Bool, false, List, Option, Some, None, codes, bytes_eq, drop, slice_index}
use Rattle.tm_terms.specs.declared.places.Place.{Place}
use Rattle.tm_terms.specs.declared.tokens.Shape.{Shape}
use Rattle.tm_terms.specs.declared.tokens.Token.{Token}
use Rattle.tm_terms.specs.Lexis.{front, behind, is_name_byte, is_blank_in_line}
use Rattle.tm_terms.specs.Spelling.{reading}
use Rattle.text_choices.specs.declared.kinds.Kind.TheVariants as Kinds
use Rattle.text_choices.specs.declared.kinds.Choice.{Choice}
use Rattle.text_choices.specs.Choices.{Adds, OfKind}
use Rattle.text_choices.specs.Texts.{IsPragma}

-- the name behind the first byte and blanks
abbrev pub word_behind : List ℕ → List ℕ
word_behind text = front is_name_byte (behind is_blank_in_line (drop 1 text))

-- a `#`, blanks, and the word
abbrev pub is_pragma : List ℕ → Bool
is_pragma text = (slice_index text 0 == 35) && bytes_eq (word_behind text) (codes "pragma")

-- the same of what begins with a piece of this shape
abbrev pub is_pragma_piece : Option Shape → List ℕ → Bool
is_pragma_piece None text = is_pragma text
is_pragma_piece (Some shape) text = false

-- a skipped line stands behind fewer pieces
abbrev pub IsPragmaBelow : List ℕ → ℕ → Place → Type 0
IsPragmaBelow source pieces place = (line : IsPragma source place) × (line.pieces < pieces)

-- a reading of the source stands here, and the lines before are added
pub record Passes (source : List ℕ) (at : ℕ) (place : Place) (bare : Bool) (old new : List Choice) : Type 0 where
  pub pieces : ℕ
  pub tokens : List Token
  pub read : reading source pieces ≡ Some (record { at = at; place = place; bare = bare; tokens = tokens })
  pub added : Adds old new (OfKind Kinds.Pragma (IsPragmaBelow source pieces))
