-- From the bytes of a source to the layout of its file: what a text means before it is analysed. No definition here
-- speaks of the analysis.
use Rattle.std.specs.Prelude.{◌≡◌, ℕ, ◌≤◌, List, [], ◌∷◌, length, codes, Option, Some, None, Result, Ok}
use Rattle.std.specs.Prelude.{Bool, bytes_eq, if◌then◌else◌}
use Rattle.tm_terms.specs.declared.refusals.Limit.TheVariants as Limits
use Rattle.tm_terms.specs.declared.refusals.Refusal.{Refusal}
use Rattle.tm_terms.specs.declared.tokens.Name.{Name}
use Rattle.tm_terms.specs.declared.tokens.Shape.{Shape}
use Rattle.tm_terms.specs.declared.tokens.Shape.TheVariants as Shapes
use Rattle.tm_terms.specs.declared.tokens.Token.{Token}
use Rattle.tm_terms.specs.Spelling.{text_of, Lexes}
use Rattle.tm_trees.specs.FileTrees.{ItemTree}
use Rattle.tm_trees.specs.Parsing.{Parses}
use Rattle.tm_laid.specs.tm_typed.Files.{TypedFileTree, IsTyped}
use Rattle.tm_laid.specs.declared.scales.Scale.{Scale}
use Rattle.tm_laid.specs.declared.scales.Scale.TheVariants as Scales
use Rattle.tm_laid.specs.Scales.{number_on}
use Rattle.tm_laid.specs.Layouts.{LaidTree, laid_out}

-- ## From bytes to a file

-- the greatest number of bytes of a source on a scale, and within the limits of the commands
abbrev pub longest_on : Scale → ℕ
longest_on scale = number_on scale Limits.Source

abbrev pub longest_source : ℕ
longest_source = longest_on Scales.Usual

-- the answer of the lexis to a source on a scale
abbrev pub LexesOn : Scale → List ℕ → Result (List Token) Refusal → Type 0
LexesOn scale = Lexes (number_on scale Limits.Tokens)

-- the name is spelled `main`
abbrev pub is_main : List ℕ → Name → Bool
is_main bytes n = bytes_eq (text_of bytes n) (codes "main")

abbrev pub main_or : List ℕ → Shape → Option Name → Option Name
main_or bytes (Shapes.Name n) rest = if is_main bytes n then Some n else rest
main_or bytes _ rest = rest

-- the name that is spelled `main`, where it stands among the tokens
abbrev pub main_in : List ℕ → List Token → Option Name
main_in bytes [] = None
main_in bytes (t ∷ tokens) = main_or bytes t.shape (main_in bytes tokens)

-- these tokens spell a file, for which typing has this answer
pub record TypesAs (main : Option Name) (tokens : List Token) (answer : Result TypedFileTree Refusal) : Type 0 where
  pub items : List ItemTree
  pub parsed : Parses tokens (Ok items)
  pub typed : IsTyped main items answer

-- ## Sources that are laid out

-- these bytes are a source of a typed file, which has this layout on a scale
pub record IsLaidSourceOn (scale : Scale) (bytes : List ℕ) (laid : LaidTree) : Type 0 where
  pub short : length bytes ≤ longest_on scale
  pub tokens : List Token
  pub lexed : LexesOn scale bytes (Ok tokens)
  pub file : TypedFileTree
  pub typed : TypesAs (main_in bytes tokens) tokens (Ok file)
  pub answered : laid_out scale file ≡ Ok laid

-- it has this layout within the limits of the commands
abbrev pub IsLaidSource : List ℕ → LaidTree → Type 0
IsLaidSource = IsLaidSourceOn Scales.Usual
