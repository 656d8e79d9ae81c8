-- What contracts see of a statement in a box, of the head of a `for`, and of a file that was read.
use Rattle.std.specs.Prelude.{List, Option, Some, None}
use Rattle.std.specs.declared.alloc.Global.{Global}
use Rattle.std.specs.declared.boxed.Box.{Box}
use Rattle.tm_terms.specs.ExprTrees.{Tree}
use Rattle.tm_trees.specs.declared.statements.Statement.{Statement}
use Rattle.tm_trees.specs.DeclarationTrees.{optional_tree}
use Rattle.tm_trees.specs.declared.files.File.{File}
use Rattle.tm_trees.specs.FileTrees.{StatementTree, statement_tree, ForFirstTree, first_tree, ItemTree}
use Rattle.tm_trees.specs.FileTrees.{file_tree}
use Rattle.c_decl_parser.specs.declared.reads.Read.{Read}
use Rattle.c_decl_parser.specs.declared.reads.Read.TheVariants.{Found, Stuck}
use Rattle.c_parser.specs.declared.statement_nodes.ForHead.{ForHead}

abbrev pub boxed_tree : Box Statement Global → StatementTree
boxed_tree s = statement_tree s.value

abbrev pub head_tree : ForHead → ForFirstTree × Option Tree × Option Tree
head_tree head = (first_tree head.first, optional_tree head.condition, optional_tree head.step)

abbrev pub whole : Read File → Option (List ItemTree)
whole (Found file rest) = Some (file_tree file)
whole (Stuck rest) = None
