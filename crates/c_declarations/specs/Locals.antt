-- Local objects, as the code holds them.
use Rattle.std.specs.Prelude.{List, Vec, map}
use Rattle.std.specs.declared.alloc.Global.{Global}
use Rattle.tm_typed.specs.declared.statements.LocalObject.{LocalObject}
use Rattle.tm_typed.specs.TypedStatements.{LocalTree, local_tree}

abbrev pub local_trees : Vec LocalObject Global → List LocalTree
local_trees locals = map local_tree locals.items
