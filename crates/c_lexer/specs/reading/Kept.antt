-- What the lexer keeps of a reading: its tokens, up to one more than are allowed.
use Rattle.std.specs.Prelude.{◌≡◌, ℕ, ◌+◌, Bool, List, take, Some}
use Rattle.tm_terms.specs.Spelling.{reading}
use Rattle.tm_terms.specs.declared.places.Place.{Place}
use Rattle.tm_terms.specs.declared.tokens.Token.{Token}

-- a reading of the source stands at this byte and place, and these of its tokens are kept: one more than `most`, if
-- there are so many
pub record Stands (most : ℕ) (source : List ℕ) (at : ℕ) (place : Place) (bare : Bool) (kept : List Token) : Type 0 where
  pub pieces : ℕ
  pub tokens : List Token
  pub read : reading source pieces ≡ Some (record { at = at; place = place; bare = bare; tokens = tokens })
  pub front : kept ≡ take (most + 1) tokens
