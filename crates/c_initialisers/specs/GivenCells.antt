-- The cells that an initialiser gives, as the code holds them.
use Rattle.std.specs.Prelude.{List, Vec, map}
use Rattle.std.specs.declared.alloc.Global.{Global}
use Rattle.tm_typed.specs.declared.statements.GivenCell.{GivenCell}
use Rattle.tm_typed.specs.TypedStatements.{GivenTree, given_tree}

abbrev pub given_trees : Vec GivenCell Global → List GivenTree
given_trees cells = map given_tree cells.items
