-- The graph of a source, from the trees of its items, equal to the one of another implementation: the initial section.
--
--   int x;int r;
--   int main(void){x=5;if(x)return 0;}
--   __task(1) void t(void){r=10/x;}
use Rattle.std.proofs.Common.{◌≡◌, refl, true, false, List, [], ◌∷◌, map, Some, None}
use Rattle.concrete_steps.specs.tm_terms.declared.tokens.Longs.TheVariants as Suffix
use Rattle.concrete_steps.specs.tm_terms.declared.types_named.SpecWord.TheVariants as Specs
use Rattle.concrete_steps.specs.tm_terms.declared.types_named.Basic.TheVariants as Basics
use Rattle.concrete_steps.specs.tm_terms.declared.exprs.Binary.TheVariants as Binaries
use Rattle.concrete_steps.specs.tm_terms.declared.exprs.Infix.TheVariants as Infixes
use Rattle.concrete_steps.specs.tm_terms.ExprTrees.{a_name, an_integer, an_infix}
use Rattle.concrete_steps.specs.tm_trees.DeclarationTrees.{a_declared_name, a_plain, no_specifiers, and_specifier}
use Rattle.concrete_steps.specs.tm_trees.FileTrees.{a_value, an_if, a_return, a_step, no_parts, and_part, only_void}
use Rattle.concrete_steps.specs.tm_trees.FileTrees.{ItemTree}
use Rattle.concrete_steps.specs.tm_trees.FileTrees.{a_declaration, a_function, a_task}
use Rattle.concrete_steps.specs.tm_typed.Rules.{working_type, right_type, values_fold}
use Rattle.concrete_steps.specs.tm_typed.Files.{first_file_state, items_in}
use Rattle.concrete_steps.specs.tm_laid.CallTrees.{call_tree}
use Rattle.concrete_steps.specs.tm_laid.TypeCells.{cell_count, abstract_count, type_cells, type_abstracts}
use Rattle.concrete_steps.specs.tm_laid.Layouts.{LaidTree, layout_of}
use Rattle.lowering.specs.Built.{built, graph_of}
use Rattle.lowering.proofs.cases.Rows.{at, name, laid_of, row_of}

items : List ItemTree
unfolding at name
items = (a_declaration (record {
  specifiers = (and_specifier (a_plain (record {
    word = (Specs.Basic Basics.Int);
    place = (at 1 1);
  })) no_specifiers);
  declarators = (record {
    declarator = (a_declared_name ([]) (name 4 1) (at 1
        5) ([]));
    initialiser = None;
  }) ∷ [];
})) ∷ (a_declaration (record {
  specifiers = (and_specifier (a_plain (record
      { word = (Specs.Basic Basics.Int); place = (at 1 7) })) no_specifiers);
  declarators = (record {
    declarator =
        (a_declared_name ([]) (name 10 1) (at 1 11) ([]));
    initialiser = None;
  }) ∷ [];
})) ∷ (a_function (record {
  specifiers = (and_specifier (a_plain (record { word = (Specs.Basic Basics.Int); place = (at 2 1) }))
      no_specifiers);
  pointers = [];
  name = (name 17 4);
  parameters = only_void;
  body = (Some (and_part (a_step
      (a_value (Some (an_infix (a_name (name 4 1) (at 2 16)) Infixes.Assign (at 2 17) (an_integer (record {
        value = 5;
        decimal = true;
        unsigned = false;
        longs = Suffix.None;
      }) (at 2 18)))))) (and_part (a_step (an_if (a_name (name 4
      1) (at 2 23)) (a_return (Some (an_integer (record {
        value = 0;
        decimal = false;
        unsigned = false;
        longs =
            Suffix.None;
      }) (at 2 32))) (at 2 25)))) no_parts)));
  place = (at 2 5);
})) ∷ (a_task (an_integer (record {
  value
      = 1;
  decimal = true;
  unsigned = false;
  longs = Suffix.None;
}) (at 3 8)) (name 63 1) (at 3 16) (and_part (a_step
    (a_value (Some (an_infix (a_name (name 10 1) (at 3 24)) Infixes.Assign (at 3 25) (an_infix (an_integer (record {
      value = 10;
      decimal = true;
      unsigned = false;
      longs = Suffix.None;
    }) (at 3 26)) (Infixes.Binary Binaries.Divide)
    (at 3 28) (a_name (name 4 1) (at 3 29))))))) no_parts) (at 3 1)) ∷ []

laid : LaidTree
laid = laid_of (items_in first_file_state items) (Some (name 17 4))

edges : map row_of (graph_of laid 0) ≡ (0 ∷ 1 ∷ 7 ∷ 0 ∷ 1 ∷ []) ∷ (1 ∷ 2 ∷ 1 ∷ 1 ∷ 20 ∷ []) ∷ (2 ∷ 3 ∷ 7 ∷ 2 ∷ 0 ∷
    []) ∷ (3 ∷ 4 ∷ 12 ∷ 3 ∷ 2 ∷ 5 ∷ 3 ∷ 29 ∷ []) ∷ (4 ∷ 5 ∷ 4 ∷ 4 ∷ 3 ∷ 5 ∷ 1 ∷ 3 ∷ 3 ∷ 28 ∷ []) ∷ (5 ∷ 6 ∷ 14 ∷ 0 ∷
    4 ∷ 5 ∷ 1 ∷ 3 ∷ 25 ∷ []) ∷ []
unfolding layout_of call_tree cell_count abstract_count type_cells type_abstracts laid items at name working_type right_type values_fold
edges = refl

nodes : (built laid 0).nodes ≡ 7
unfolding layout_of call_tree cell_count abstract_count type_cells type_abstracts laid items at name working_type right_type values_fold
nodes = refl

edges1 : map row_of (graph_of laid 1) ≡ (0 ∷ 1 ∷ 7 ∷ 0 ∷ 0 ∷ []) ∷ (1 ∷ 2 ∷ 1 ∷ 1 ∷ 10 ∷ []) ∷ (2 ∷ 3 ∷ 14 ∷ 0 ∷ 1 ∷
    5 ∷ 0 ∷ 2 ∷ 17 ∷ []) ∷ (3 ∷ 4 ∷ 7 ∷ 2 ∷ 0 ∷ []) ∷ (4 ∷ 5 ∷ 12 ∷ 3 ∷ 2 ∷ 5 ∷ 2 ∷ 23 ∷ []) ∷ (5 ∷ 6 ∷ 19 ∷ 15 ∷ 3
    ∷ 0 ∷ []) ∷ (5 ∷ 7 ∷ 19 ∷ 14 ∷ 3 ∷ 0 ∷ []) ∷ (6 ∷ 8 ∷ 1 ∷ 4 ∷ 0 ∷ []) ∷ (8 ∷ 9 ∷ 2 ∷ 5 ∷ 4 ∷ []) ∷ (10 ∷ 11 ∷ 0
    ∷ []) ∷ (7 ∷ 11 ∷ 0 ∷ []) ∷ (11 ∷ 12 ∷ 15 ∷ 5 ∷ 4294967295 ∷ 4294967294 ∷ []) ∷ (9 ∷ 13 ∷ 0 ∷ []) ∷ (12 ∷ 13 ∷ 0
    ∷ []) ∷ []
unfolding layout_of call_tree cell_count abstract_count type_cells type_abstracts laid items at name working_type right_type values_fold
edges1 = refl

nodes1 : (built laid 1).nodes ≡ 14
unfolding layout_of call_tree cell_count abstract_count type_cells type_abstracts laid items at name working_type right_type values_fold
nodes1 = refl
