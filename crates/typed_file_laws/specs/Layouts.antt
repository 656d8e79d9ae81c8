-- A typed file can be laid out.
use Rattle.std.specs.Prelude.{ℕ, ◌<◌, List, All, Contains, length, Option, Ok}
use Rattle.tm_laid.specs.tm_terms.declared.tokens.Name.{Name}
use Rattle.tm_laid.specs.tm_trees.FileTrees.{ItemTree}
use Rattle.tm_laid.specs.tm_typed.CallGraph.{AreCalleesFirst, calls_in}
use Rattle.tm_laid.specs.tm_typed.Files.{TypedFileTree, IsTyped}
use Rattle.tm_laid.specs.Layable.{IsLayable}

-- whatever order of its functions has each behind those that it calls
abbrev pub AreLayable : Type 0
AreLayable =
    (main : Option Name) (items : List ItemTree) (file : TypedFileTree) (order : List ℕ) → IsTyped main items (Ok file)
    → AreCalleesFirst (calls_in file.calls) order → All (λ f. f < length file.functions) order
    → ((f : ℕ) → f < length file.functions → Contains order f) → IsLayable file order
