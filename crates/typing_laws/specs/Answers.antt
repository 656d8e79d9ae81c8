-- A file has one answer.
use Rattle.std.specs.Prelude.{◌≡◌, List, Option, Result}
use Rattle.tm_typed.specs.tm_terms.declared.tokens.Name.{Name}
use Rattle.tm_typed.specs.tm_terms.declared.refusals.Refusal.{Refusal}
use Rattle.tm_typed.specs.tm_trees.FileTrees.{ItemTree}
use Rattle.tm_typed.specs.Files.{TypedFileTree, IsTyped}

-- it has at most one
abbrev pub HasOneAnswer : Type 0
HasOneAnswer =
    (main : Option Name) (items : List ItemTree) (a b : Result TypedFileTree Refusal) → IsTyped main items a
    → IsTyped main items b → a ≡ b

-- it has at least one
abbrev pub HasAnAnswer : Type 0
HasAnAnswer = (main : Option Name) (items : List ItemTree) → (answer : Result TypedFileTree Refusal)
    × IsTyped main items answer
