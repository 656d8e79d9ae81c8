-- What is declared, as the code keeps it.
use Rattle.std.specs.Prelude.{List, [], ◌∷◌, Option, Some, None}
use Rattle.tm_trees.specs.declared.declarations.Initialiser.{Initialiser}
use Rattle.tm_trees.specs.DeclarationTrees.{initialiser_tree}
use Rattle.tm_typed.specs.declared.statements.LocalObject.{LocalObject}
use Rattle.tm_typed.specs.TypedStatements.{LocalTree, local_tree}
use Rattle.tm_typed.specs.Declarations.{Declared as DeclaredTree}
use Rattle.c_declarations.specs.declared.declared.Declared.{Declared}

-- a declared name, and what follows its `=`
abbrev pub with_value : Declared → Option Initialiser → DeclaredTree
with_value d i = record { name = d.name; place = d.place; shape = d.shape; initialiser = initialiser_tree i }

-- the local object that is declared, if it is one
abbrev pub optional_local : Option LocalObject → List LocalTree
optional_local None = []
optional_local (Some l) = local_tree l ∷ []
