-- What tokens are answered with: a bracket that is too deep, else the file that they spell, else that they spell none.
use Rattle.std.specs.Prelude.{◌≡◌, ℕ, ◌-◌, ◌≤◌, suc, if◌then◌else◌, nat_lt, List, [], ◌∷◌, ◌++◌, Option, Some, None}
use Rattle.std.specs.Prelude.{Result, Ok, Err}
use Rattle.tm_terms.specs.declared.places.Place.{Place}
use Rattle.tm_terms.specs.declared.refusals.Fail.{Fail}
use Rattle.tm_terms.specs.declared.refusals.Fail.TheVariants as fail
use Rattle.tm_terms.specs.declared.refusals.Kind.TheVariants as kind
use Rattle.tm_terms.specs.declared.refusals.Refusal.{Refusal}
use Rattle.tm_terms.specs.declared.tokens.Shape.{Shape}
use Rattle.tm_terms.specs.declared.tokens.Shape.TheVariants as Shapes
use Rattle.tm_terms.specs.declared.tokens.Sign.{Sign}
use Rattle.tm_terms.specs.declared.tokens.Sign.TheVariants as Signs
use Rattle.tm_terms.specs.declared.tokens.Token.{Token}
use Rattle.tm_trees.specs.declared.files.File.{File}
use Rattle.tm_trees.specs.FileTrees.{ItemTree, file_tree, file_height}
use Rattle.tm_trees.specs.FileSpelling.{SpellsFile}

-- ## Brackets

-- How many brackets are open behind a sign: each that opens adds one, each that closes takes one away where one is
-- open, of whatever kind.
abbrev pub open_behind_sign : ℕ → Sign → ℕ
open_behind_sign n Signs.OpenParenthesis = suc n
open_behind_sign n Signs.OpenBracket = suc n
open_behind_sign n Signs.OpenBrace = suc n
open_behind_sign n Signs.CloseParenthesis = n - 1
open_behind_sign n Signs.CloseBracket = n - 1
open_behind_sign n Signs.CloseBrace = n - 1
open_behind_sign n _ = n

abbrev pub open_behind : ℕ → Shape → ℕ
open_behind n (Shapes.Sign sign) = open_behind_sign n sign
open_behind n _ = n

-- the first token behind which more than 200 brackets are open, where n are open before
unfoldable pub first_deep : ℕ → List Token → Option Place
first_deep n [] = None
first_deep n (t ∷ ts) =
    if nat_lt 200 (open_behind n t.shape) then Some t.place else first_deep (open_behind n t.shape) ts

-- ## The answer

abbrev pub deep : Place → Refusal
deep place = record { kind = kind.Deep; place = place; limit = None }

abbrev pub syntax_error : Place → Refusal
syntax_error place = record { kind = kind.Syntax; place = place; limit = None }

-- a token stands at this place
pub record IsPlaceOf (tokens : List Token) (place : Place) : Type 0 where
  pub before : List Token
  pub token : Token
  pub after : List Token
  pub among : tokens ≡ before ++ token ∷ after
  pub here : token.place ≡ place

-- a file of height at most 500 that the tokens spell
pub record IsFileOf (tokens : List Token) (items : List ItemTree) : Type 0 where
  pub spelled : SpellsFile items tokens
  pub low : file_height items ≤ 500

-- The answer to tokens. The place of a syntax error is that of some token.
pub data Parses (tokens : List Token) : Result (List ItemTree) Refusal → Type 0 where
  too_deep : {place : Place} → first_deep 0 tokens ≡ Some place → Parses tokens (Err (deep place))
  spells : {items : List ItemTree} → first_deep 0 tokens ≡ None → IsFileOf tokens items → Parses tokens (Ok items)
  spells_none : {place : Place} → first_deep 0 tokens ≡ None → ((items : List ItemTree) → IsFileOf tokens items → ⊥)
      → IsPlaceOf tokens place
      → Parses tokens (Err (syntax_error place))

-- ## Clauses of a call that answers with the file

-- the answer of the call, but for want of memory
abbrev pub answer_of : Result File Fail → Option (Result (List ItemTree) Refusal)
answer_of (Ok file) = Some (Ok (file_tree file))
answer_of (Err (fail.Refused refusal)) = Some (Err refusal)
answer_of (Err fail.NoMemory) = None
