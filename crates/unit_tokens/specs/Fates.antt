-- What becomes of the tokens of units.
use Rattle.std.specs.Prelude.{◌≡◌, ℕ, ◌<◌, Bool, true, false, List, Some, slice_get}
use Rattle.tm_terms.specs.declared.tokens.Token.{Token}
use Rattle.unit_tokens.specs.declared.fates.Fate.{Fate}
use Rattle.unit_tokens.specs.declared.fates.Fate.TheVariants.{Stays, Renamed, LeftOut}
use Rattle.unit_tokens.specs.declared.fates.Fated.{Fated}

-- a token with this fate is written
abbrev pub is_kept_by : Fate → Bool
is_kept_by Stays = true
is_kept_by Renamed = true
is_kept_by (LeftOut k) = false

abbrev pub is_kept : Fated → Bool
is_kept f = is_kept_by f.fate

-- a token with this fate is written as it is
abbrev pub is_staying_by : Fate → Bool
is_staying_by Stays = true
is_staying_by Renamed = false
is_staying_by (LeftOut k) = false

abbrev pub is_staying : Fated → Bool
is_staying f = is_staying_by f.fate

-- the token with this number is the same token, on an earlier line, and is written as it is
pub record StandsBefore (fated : List Fated) (number : ℕ) (token : Token) : Type 0 where
  pub other : Fated
  pub there : slice_get fated number ≡ Some other
  pub stays : is_staying other ≡ true
  pub same : other.token.shape ≡ token.shape
  pub before : other.token.place.line < token.place.line

-- a token with this fate is written, or is the same as one that stands before
abbrev pub IsLeftFor : List Fated → Token → Fate → Type 0
IsLeftFor fated token Stays = Unit {0}
IsLeftFor fated token Renamed = Unit {0}
IsLeftFor fated token (LeftOut number) = StandsBefore fated number token

abbrev pub IsRightlyLeft : List Fated → Fated → Type 0
IsRightlyLeft fated f = IsLeftFor fated f.token f.fate
