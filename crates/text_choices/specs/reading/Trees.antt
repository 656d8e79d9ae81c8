-- What the tokens of a source leave open, word by word and by its tree.
use Rattle.std.specs.Prelude.{◌≡◌, ◌⊎◌, ℕ, List, Contains, Option, Some, None, Ok}
use Rattle.tm_terms.specs.declared.tokens.Token.{Token}
use Rattle.tm_trees.specs.declared.files.File.{File}
use Rattle.tm_trees.specs.FileTrees.{ItemTree, file_tree}
use Rattle.tm_trees.specs.Parsing.{Parses}
use Rattle.tm_laid.specs.Layouts.{LaidTree}
use Rattle.text_choices.specs.declared.kinds.Kind.TheVariants as Kinds
use Rattle.text_choices.specs.declared.kinds.Choice.{Choice}
use Rattle.text_choices.specs.Choices.{OfKind}
use Rattle.text_choices.specs.Texts.{declared_in}
use Rattle.text_choices.specs.reading.Tokens.{restrict_at}
use Rattle.text_choices.specs.reading.Declared.{IsReservedAmong}
use Rattle.text_choices.specs.reading.Files.{IsOfFile}

-- the file that tokens spell, if they spell one
abbrev pub AreItems : List Token → Option File → Type 0
AreItems tokens None = (items : List ItemTree) → Parses tokens (Ok items) → ⊥
AreItems tokens (Some file) =
    Parses tokens (Ok (file_tree file)) × ((items : List ItemTree) → Parses tokens (Ok items) → file_tree file ≡ items)

-- the items of a file leave it open
abbrev pub IsOfItems : List ℕ → LaidTree → List ItemTree → Choice → Type 0
IsOfItems bytes laid items c =
    OfKind Kinds.Reserved (IsReservedAmong bytes (declared_in items)) c ⊎ IsOfFile laid items c

-- the tree of tokens leaves it open
pub record IsOfTree (bytes : List ℕ) (laid : LaidTree) (tokens : List Token) (c : Choice) : Type 0 where
  pub items : List ItemTree
  pub parsed : Parses tokens (Ok items)
  pub left : IsOfItems bytes laid items c

-- a word does, or the tree
abbrev pub IsOfTokens : List ℕ → LaidTree → List Token → Choice → Type 0
IsOfTokens bytes laid tokens c =
    OfKind Kinds.Restrict (λ place. Contains tokens (restrict_at place)) c ⊎ IsOfTree bytes laid tokens c
