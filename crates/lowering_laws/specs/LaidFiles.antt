-- Files that are typed and laid out.
use Rattle.std.specs.Prelude.{◌≡◌, List, Option, Ok}
use Rattle.call_graph.specs.tm_terms.declared.tokens.Name.{Name}
use Rattle.call_graph.specs.tm_trees.FileTrees.{ItemTree}
use Rattle.call_graph.specs.tm_typed.Files.{TypedFileTree, IsTyped}
use Rattle.cell_layout.specs.tm_laid.declared.scales.Scale.{Scale}
use Rattle.cell_layout.specs.tm_laid.Layouts.{LaidTree, laid_out}

-- the layout of a typed file, on some scale
pub record IsLaidFile (laid : LaidTree) : Type 0 where
  pub main : Option Name
  pub items : List ItemTree
  pub file : TypedFileTree
  pub typed : IsTyped main items (Ok file)
  pub scale : Scale
  pub answered : laid_out scale file ≡ Ok laid
