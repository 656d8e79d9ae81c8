-- Which tokens a source spells: a source is read piece by piece, each the longest that begins at its byte (C99 6.4).
use Rattle.std.specs.Prelude.{◌≡◌, ℕ, ◌+◌, ◌<◌, zero, suc, Bool, true, false, ◌&&◌, if◌then◌else◌, ◌==◌, nat_lt, List}
use Rattle.std.specs.Prelude.{[], ◌∷◌, ◌++◌, length, take, drop, Option, Some, None, Result, Ok, Err, option_map}
use Rattle.std.specs.Prelude.{Contains, option_and_then, unwrap_or, is_some, bytes_eq, fold, find, Vec}
use Rattle.tm_terms.specs.Lexis.{begins, is_blank}
use Rattle.tm_terms.specs.declared.places.Place.{Place}
use Rattle.tm_terms.specs.declared.refusals.Fail.{Fail}
use Rattle.tm_terms.specs.declared.refusals.Fail.TheVariants as fail
use Rattle.tm_terms.specs.declared.refusals.Kind.TheVariants as kind
use Rattle.tm_terms.specs.declared.refusals.Limit.TheVariants as counted
use Rattle.tm_terms.specs.declared.refusals.Refusal.{Refusal}
use Rattle.tm_terms.specs.declared.tokens.Name.{Name}
use Rattle.tm_terms.specs.declared.tokens.Piece.{Piece}
use Rattle.tm_terms.specs.declared.tokens.Shape.{Shape}
use Rattle.tm_terms.specs.declared.tokens.Shape.TheVariants as shape
use Rattle.tm_terms.specs.declared.tokens.Sign.TheVariants as sign
use Rattle.tm_terms.specs.declared.tokens.Token.{Token}
use Rattle.tm_terms.specs.declared.tokens.Word.TheVariants as word

-- ## Places

-- The place behind a byte: byte 10 ends a line, and lines and columns are counted from 1.
abbrev pub next_place : Place → ℕ → Place
next_place place b =
    if b == 10 then record { line = place.line + 1; col = 1 } else record { line = place.line; col = place.col + 1 }

-- the place behind a text
abbrev pub place_after : Place → List ℕ → Place
place_after place text = fold next_place place text

-- whether only blanks stand on the line before the byte behind a text
abbrev pub bare_after : Bool → List ℕ → Bool
bare_after bare text = fold (λ so_far b. if b == 10 then true else (so_far && is_blank b)) bare text

-- ## A reading, piece by piece

-- Where a reading of a source stands: how many bytes it has read, the place of the next, whether only blanks stand
-- before that on its line, and the tokens so far, each name where it stands.
pub record Reading : Type 0 where
  pub at : ℕ
  pub place : Place
  pub bare : Bool
  pub tokens : List Token

abbrev pub no_place : Place
no_place = record { line = 0; col = 0 }

abbrev pub first_place : Place
first_place = record { line = 1; col = 1 }

abbrev pub at_start : Reading
at_start = record { at = 0; place = first_place; bare = true; tokens = [] }

-- the token of a piece, if it is one
abbrev pub token_of : Place → Option Shape → List Token
token_of place None = []
token_of place (Some s) = record { shape = s; place = place } ∷ []

module _ (source : List ℕ) where
  -- the reading behind a piece
  abbrev pub read_past : Reading → Piece → Reading
  read_past r piece =
      let text = take piece.length (drop r.at source) in
      record {
        at = r.at + piece.length;
        place = place_after r.place text;
        bare = bare_after r.bare text;
        tokens = r.tokens ++ token_of r.place piece.shape;
      }

  -- the reading behind the piece that begins where it stands, if one does
  unfoldable pub next_reading : Reading → Option Reading
  next_reading r = option_map (read_past r) (begins r.at r.bare (drop r.at source))

  -- the reading from the start over this many pieces, if so many begin one behind the other
  unfoldable pub reading : ℕ → Option Reading
  reading zero = Some at_start
  reading (suc k) = option_and_then next_reading (reading k)

-- ## Names

-- A table has each text that has stood as a name, with the byte at which it first did: that byte for a text.
abbrev pub start_of : List (List ℕ × ℕ) → List ℕ → Option ℕ
start_of [] text = None
start_of (e ∷ table) text = if bytes_eq e.0 text then Some e.1 else start_of table text

-- the table once this text has stood as a name at this byte
abbrev pub noted_at : List (List ℕ × ℕ) → List ℕ → ℕ → List (List ℕ × ℕ)
noted_at table text start = if is_some (start_of table text) then table else (text, start) ∷ table

module _ (source : List ℕ) where
  -- the text of a name
  abbrev pub text_of : Name → List ℕ
  text_of name = take name.length (drop name.start source)

  -- the table behind a token
  abbrev pub noted : List (List ℕ × ℕ) → Shape → List (List ℕ × ℕ)
  noted table (shape.Name name) = noted_at table (text_of name) name.start
  noted table _ = table

  -- a name is told by where its text stood first, and anything else stays
  abbrev pub told : List (List ℕ × ℕ) → Shape → Shape
  told table (shape.Name name) =
      shape.Name (record { start = unwrap_or (start_of table (text_of name)) name.start; length = name.length })
  told table s = s

  -- the tokens, with each name told by where its text stands first, among these or in the table of those before
  unfoldable pub with_first_names : List (List ℕ × ℕ) → List Token → List Token
  with_first_names table [] = []
  with_first_names table (t ∷ tokens) =
      record { shape = told table t.shape; place = t.place } ∷ with_first_names (noted table t.shape) tokens

-- this name stands among the tokens
pub record IsNameAmong (tokens : List Token) (name : Name) : Type 0 where
  pub place : Place
  pub among : Contains tokens (record { shape = shape.Name name; place = place })

-- ## What a source spells

-- the source is read to its end, and these are its tokens
pub record Spells (source : List ℕ) (tokens : List Token) : Type 0 where
  pub pieces : ℕ
  pub last : Reading
  pub read : reading source pieces ≡ Some last
  pub whole : last.at ≡ length source
  pub spelled : tokens ≡ with_first_names source [] last.tokens

-- the source is read up to this place, and nothing begins there
pub record StopsAt (source : List ℕ) (place : Place) : Type 0 where
  pub pieces : ℕ
  pub last : Reading
  pub read : reading source pieces ≡ Some last
  pub inside : last.at < length source
  pub stopped : begins last.at last.bare (drop last.at source) ≡ None
  pub here : last.place ≡ place

-- ## The answer

-- words and signs that no source may have
abbrev pub is_unsupported : Shape → Bool
is_unsupported (shape.Word word.Float) = true
is_unsupported (shape.Word word.Double) = true
is_unsupported (shape.Word word.Union) = true
is_unsupported (shape.Word word.Goto) = true
is_unsupported (shape.Word word.Complex) = true
is_unsupported (shape.Word word.Imaginary) = true
is_unsupported (shape.Sign sign.Ellipsis) = true
is_unsupported _ = false

abbrev pub lexical : Place → Refusal
lexical place = record { kind = kind.Lexical; place = place; limit = None }

abbrev pub too_many_tokens : Refusal
too_many_tokens = record { kind = kind.Limit; place = no_place; limit = Some counted.Tokens }

abbrev pub unsupported : Token → Refusal
unsupported t = record { kind = kind.Unsupported; place = t.place; limit = None }

-- the tokens, unless this one is refused
abbrev pub unless_refused : List Token → Option Token → Result (List Token) Refusal
unless_refused tokens None = Ok tokens
unless_refused tokens (Some t) = Err (unsupported t)

-- What the tokens of a source are answered with, of which at most so many are allowed: the limit, else the first
-- unsupported one, else they themselves.
unfoldable pub checked : ℕ → List Token → Result (List Token) Refusal
checked most tokens =
    if nat_lt most (length tokens) then Err too_many_tokens
    else unless_refused tokens (find (λ t. is_unsupported t.shape) tokens)

-- The answer to a source that may have so many tokens: a place where nothing begins is refused, and else its tokens
-- are checked.
pub data Lexes (most : ℕ) (source : List ℕ) : Result (List Token) Refusal → Type 0 where
  stops : {place : Place} → StopsAt source place → Lexes most source (Err (lexical place))
  spells : {tokens : List Token} → Spells source tokens → Lexes most source (checked most tokens)

-- ## Clauses of a call that answers with the tokens

-- the answer of the call, but for want of memory
abbrev pub answer_of : {A : Type 0} → Result (Vec Token A) Fail → Option (Result (List Token) Refusal)
answer_of (Ok tokens) = Some (Ok tokens.items)
answer_of (Err (fail.Refused refusal)) = Some (Err refusal)
answer_of (Err fail.NoMemory) = None
