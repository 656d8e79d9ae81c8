-- Statements that an `else` could follow.
use Rattle.std.specs.Prelude.{Bool, true, false}
use Rattle.tm_trees.specs.FileTrees.{StatementTree, an_if, an_if_else, a_while, a_for}

-- the statement ends with an `if` that has no `else`
abbrev pub ends_with_open_if : StatementTree → Bool
ends_with_open_if (an_if c s) = true
ends_with_open_if (an_if_else c s r) = ends_with_open_if r
ends_with_open_if (a_while c s) = ends_with_open_if s
ends_with_open_if (a_for first c step s) = ends_with_open_if s
ends_with_open_if _ = false
