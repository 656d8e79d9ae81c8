-- What a joined text of units is. The units stand one behind another in a text of their own, each behind a line of its
-- own, and their tokens are those of that text.
use Rattle.std.specs.Prelude.{◌≡◌, ℕ, ◌<◌, ◌-◌, List, [], All, Some, Ok, length, map, filter, slice_get}
use Rattle.source_marks.specs.Marks.{Origin, origins_of}
use Rattle.tm_terms.specs.Spelling.{Lexes}
use Rattle.tm_terms.specs.Limits.{most_tokens}
use Rattle.tm_terms.specs.declared.tokens.Token.{Token}
use Rattle.unit_joins.specs.Parts.{AreBorders}
use Rattle.unit_plans.specs.Plans.{AreFates}
use Rattle.unit_tokens.specs.Fates.{IsRightlyLeft, is_kept}
use Rattle.unit_tokens.specs.Sayings.{said, wanted}
use Rattle.unit_tokens.specs.Units.{IsNowhere}
use Rattle.unit_tokens.specs.declared.fates.Fated.{Fated}

-- By the text of the units, what new names have behind the old ones, the lines that stand before units, the origins of
-- the lines, the joined text, and the origins of its lines.
module _ (units mark borders : List ℕ) (origins : List Origin) (joined : List ℕ) (joined_origins : List Origin) where
  -- a token of the joined text says what one of the units should, in the same column of the same line of the same file
  pub record IsWritten (fated : Fated) (token : Token) : Type 0 where
    pub says : said joined token.shape ≡ wanted units mark borders fated
    pub origin : slice_get joined_origins (token.place.line - 1) ≡ slice_get origins (fated.token.place.line - 1)
    pub column : token.place.col ≡ fated.token.place.col

  -- the tokens of the joined text stand for those of the units, one for one and in their order
  pub record AreWritten (kept : List Fated) (tokens : List Token) : Type 0 where
    pub count : length kept ≡ length tokens
    pub each : (k : ℕ) → k < length kept → (f : Fated) (t : Token) → slice_get kept k ≡ Some f
        → slice_get tokens k ≡ Some t → IsWritten f t

-- a text is the joined one of these units
pub record IsJoined (units joined : List ℕ) : Type 0 where
  -- the tokens of both, and where their lines come from
  pub tokens : List Token
  pub joined_tokens : List Token
  pub origins : List Origin
  pub joined_origins : List Origin
  pub lexed : Lexes most_tokens units (Ok tokens)
  pub joined_lexed : Lexes most_tokens joined (Ok joined_tokens)
  pub traced : origins_of [] units ≡ Some origins
  pub joined_traced : origins_of [] joined ≡ Some joined_origins
  -- the lines that stand before units, and a mark that stands nowhere in them
  pub borders : List ℕ
  pub parted : AreBorders units borders
  pub mark : List ℕ
  pub nowhere : IsNowhere mark units
  -- each token of the units stays, gets the new name of its unit, or is left out for one that stands before, as linkage
  -- and the declarations of the units have it
  pub fated : List Fated
  pub all : map (λ f. f.token) fated ≡ tokens
  pub fates : AreFates borders tokens (map (λ f. f.fate) fated)
  pub left : All (IsRightlyLeft fated) fated
  pub written : AreWritten units mark borders origins joined joined_origins (filter is_kept fated) joined_tokens
