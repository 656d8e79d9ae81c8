-- The graph of a source, from the trees of its items, equal to the one of another implementation: `return` in
-- branches and loops, of a task and of a called function.
--
--   __mutex m;int x;
--   static void f(void){if(x)return;x=1;}
--   __task(1) void t(void){if(x)return;f();x=2;while(x){if(x==2)return;x--;}}
use Rattle.std.proofs.Common.{◌≡◌, refl, true, false, List, [], ◌∷◌, map, Some, None}
use Rattle.concrete_steps.specs.tm_terms.declared.tokens.Longs.TheVariants as Suffix
use Rattle.concrete_steps.specs.tm_terms.declared.types_named.SpecWord.TheVariants as Specs
use Rattle.concrete_steps.specs.tm_terms.declared.types_named.Basic.TheVariants as Basics
use Rattle.concrete_steps.specs.tm_terms.declared.types_named.Storage.TheVariants as Storages
use Rattle.concrete_steps.specs.tm_terms.declared.exprs.Binary.TheVariants as Binaries
use Rattle.concrete_steps.specs.tm_terms.declared.exprs.Infix.TheVariants as Infixes
use Rattle.concrete_steps.specs.tm_terms.declared.exprs.Postfix.TheVariants as Postfixes
use Rattle.concrete_steps.specs.tm_terms.ExprTrees.{a_call, a_name, a_postfix, an_infix, an_integer, no_arguments}
use Rattle.concrete_steps.specs.tm_trees.DeclarationTrees.{a_declared_name, a_plain, and_specifier, no_specifiers}
use Rattle.concrete_steps.specs.tm_trees.FileTrees.{a_block, a_declaration, a_function, a_mutex, a_return, a_step}
use Rattle.concrete_steps.specs.tm_trees.FileTrees.{a_task, a_value}
use Rattle.concrete_steps.specs.tm_trees.FileTrees.{a_while, an_if, and_part, no_parts, only_void, ItemTree}
use Rattle.concrete_steps.specs.tm_typed.Rules.{working_type, right_type, values_fold}
use Rattle.concrete_steps.specs.tm_typed.Files.{first_file_state, items_in}
use Rattle.concrete_steps.specs.tm_laid.CallTrees.{call_tree}
use Rattle.concrete_steps.specs.tm_laid.TypeCells.{cell_count, abstract_count, type_cells, type_abstracts}
use Rattle.concrete_steps.specs.tm_laid.Layouts.{LaidTree, layout_of}
use Rattle.lowering.specs.Built.{built, graph_of}
use Rattle.lowering.proofs.cases.Rows.{at, name, laid_of, row_of}

items : List ItemTree
unfolding at name
items = (a_mutex (name 8 1) (at 1 9)) ∷ (a_declaration (record {
  specifiers = (and_specifier (a_plain (record {
    word =
        (Specs.Basic Basics.Int);
    place = (at 1 11);
  })) no_specifiers);
  declarators = (record {
    declarator =
        (a_declared_name [] (name 14 1) (at 1 15) []);
    initialiser = None;
  }) ∷ [];
})) ∷ (a_function (record {
  specifiers =
      (and_specifier (a_plain (record { word = (Specs.Storage Storages.Static); place = (at 2 1) })) (and_specifier
      (a_plain (record { word = (Specs.Basic Basics.Void); place = (at 2 8) })) no_specifiers));
  pointers = [];
  name =
      (name 29 1);
  parameters = only_void;
  body = (Some (and_part (a_step (an_if (a_name (name 14 1) (at 2 24))
      (a_return None (at 2 26)))) (and_part (a_step (a_value (Some (an_infix (a_name (name 14 1) (at 2 33))
      Infixes.Assign (at 2 34) (an_integer (record { value = 1; decimal = true; unsigned = false; longs = Suffix.None })
      (at 2 35)))))) no_parts)));
  place = (at 2 13);
})) ∷ (a_task (an_integer (record {
  value = 1;
  decimal = true;
  unsigned = false;
  longs = Suffix.None;
}) (at 3 8)) (name 70 1) (at 3 16) (and_part (a_step (an_if (a_name (name 14
    1) (at 3 27)) (a_return None (at 3 29)))) (and_part (a_step (a_value (Some (a_call (name 29 1) no_arguments (at 3
    36))))) (and_part (a_step (a_value (Some (an_infix (a_name (name 14 1) (at 3 40)) Infixes.Assign (at 3 41)
    (an_integer (record { value = 2; decimal = true; unsigned = false; longs = Suffix.None }) (at 3 42)))))) (and_part
    (a_step (a_while (a_name (name 14 1) (at 3 50)) (a_block (and_part (a_step (an_if (an_infix (a_name (name 14 1)
    (at 3 56)) (Infixes.Binary Binaries.Equal) (at 3 57) (an_integer (record {
      value = 2;
      decimal = true;
      unsigned =
          false;
      longs = Suffix.None;
    }) (at 3 59))) (a_return None (at 3 61)))) (and_part (a_step (a_value (Some (a_postfix
    (a_name (name 14 1) (at 3 68)) Postfixes.Decrement (at 3 69))))) no_parts))))) no_parts)))) (at 3 1)) ∷ []

laid : LaidTree
laid = laid_of (items_in first_file_state items) None

edges : map row_of (graph_of laid 0) ≡ (0 ∷ 1 ∷ 7 ∷ 0 ∷ 0 ∷ []) ∷ (1 ∷ 2 ∷ 12 ∷ 1 ∷ 0 ∷ 5 ∷ 3 ∷ 27 ∷ []) ∷ (2 ∷ 3 ∷ 19
    ∷ 15 ∷ 1 ∷ 0 ∷ []) ∷ (2 ∷ 4 ∷ 19 ∷ 14 ∷ 1 ∷ 0 ∷ []) ∷ (5 ∷ 6 ∷ 0 ∷ []) ∷ (4 ∷ 6 ∷ 0 ∷ []) ∷ (6 ∷ 7 ∷ 7 ∷ 2 ∷ 0 ∷
    []) ∷ (7 ∷ 8 ∷ 12 ∷ 3 ∷ 2 ∷ 5 ∷ 2 ∷ 24 ∷ []) ∷ (8 ∷ 9 ∷ 19 ∷ 15 ∷ 3 ∷ 0 ∷ []) ∷ (8 ∷ 10 ∷ 19 ∷ 14 ∷ 3 ∷ 0 ∷ []) ∷
    (11 ∷ 12 ∷ 0 ∷ []) ∷ (10 ∷ 12 ∷ 0 ∷ []) ∷ (12 ∷ 13 ∷ 7 ∷ 4 ∷ 0 ∷ []) ∷ (13 ∷ 14 ∷ 1 ∷ 5 ∷ 2 ∷ []) ∷ (14 ∷ 15 ∷ 14
    ∷ 4 ∷ 5 ∷ 5 ∷ 0 ∷ 2 ∷ 34 ∷ []) ∷ (9 ∷ 16 ∷ 0 ∷ []) ∷ (15 ∷ 16 ∷ 0 ∷ []) ∷ (16 ∷ 17 ∷ 7 ∷ 6 ∷ 0 ∷ []) ∷ (17 ∷ 18 ∷
    1 ∷ 7 ∷ 4 ∷ []) ∷ (18 ∷ 19 ∷ 14 ∷ 6 ∷ 7 ∷ 5 ∷ 0 ∷ 3 ∷ 41 ∷ []) ∷ (19 ∷ 20 ∷ 0 ∷ []) ∷ (20 ∷ 21 ∷ 7 ∷ 8 ∷ 0 ∷ []) ∷
    (21 ∷ 22 ∷ 12 ∷ 9 ∷ 8 ∷ 5 ∷ 3 ∷ 50 ∷ []) ∷ (22 ∷ 23 ∷ 19 ∷ 15 ∷ 9 ∷ 0 ∷ []) ∷ (22 ∷ 24 ∷ 19 ∷ 14 ∷ 9 ∷ 0 ∷ []) ∷
    (23 ∷ 25 ∷ 7 ∷ 10 ∷ 0 ∷ []) ∷ (25 ∷ 26 ∷ 12 ∷ 11 ∷ 10 ∷ 5 ∷ 3 ∷ 56 ∷ []) ∷ (26 ∷ 27 ∷ 1 ∷ 12 ∷ 4 ∷ []) ∷ (27 ∷ 28
    ∷ 18 ∷ 14 ∷ 11 ∷ 12 ∷ []) ∷ (27 ∷ 29 ∷ 18 ∷ 15 ∷ 11 ∷ 12 ∷ []) ∷ (30 ∷ 31 ∷ 0 ∷ []) ∷ (29 ∷ 31 ∷ 0 ∷ []) ∷ (31 ∷
    32 ∷ 7 ∷ 13 ∷ 0 ∷ []) ∷ (32 ∷ 33 ∷ 12 ∷ 14 ∷ 13 ∷ 5 ∷ 3 ∷ 68 ∷ []) ∷ (33 ∷ 34 ∷ 1 ∷ 15 ∷ 2 ∷ []) ∷ (34 ∷ 35 ∷ 4 ∷
    16 ∷ 1 ∷ 5 ∷ 14 ∷ 15 ∷ 3 ∷ 69 ∷ []) ∷ (35 ∷ 36 ∷ 14 ∷ 13 ∷ 16 ∷ 5 ∷ 0 ∷ 3 ∷ 69 ∷ []) ∷ (36 ∷ 20 ∷ 0 ∷ []) ∷ (24 ∷
    37 ∷ 0 ∷ []) ∷ (3 ∷ 38 ∷ 0 ∷ []) ∷ (28 ∷ 38 ∷ 0 ∷ []) ∷ (37 ∷ 38 ∷ 0 ∷ []) ∷ []
unfolding layout_of call_tree cell_count abstract_count type_cells type_abstracts laid items at name working_type right_type values_fold
edges = refl

nodes : (built laid 0).nodes ≡ 39
unfolding layout_of call_tree cell_count abstract_count type_cells type_abstracts laid items at name working_type right_type values_fold
nodes = refl
