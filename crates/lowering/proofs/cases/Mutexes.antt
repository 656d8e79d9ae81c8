-- The graph of a source, from the trees of its items, equal to the one of another implementation: two tasks with
-- mutexes, a test of one, a volatile object and an input.
--
--   __mutex m;__mutex n;int x;volatile int d;
--   __task(2) void a(void){__lock(m);x=d;__unlock(m);__yield();if(!__islocked(n))x=__input(0,9);}
--   __task(1) void b(void){while(1){__lock(n);x=x/2;__unlock(n);__yield();}}
use Rattle.std.proofs.Common.{◌≡◌, refl, true, false, List, [], ◌∷◌, map, Some, None}
use Rattle.concrete_steps.specs.tm_terms.declared.tokens.Longs.TheVariants as Suffix
use Rattle.concrete_steps.specs.tm_terms.declared.types_named.SpecWord.TheVariants as Specs
use Rattle.concrete_steps.specs.tm_terms.declared.types_named.Basic.TheVariants as Basics
use Rattle.concrete_steps.specs.tm_terms.declared.types_named.Qualifier.TheVariants as Qualifiers
use Rattle.concrete_steps.specs.tm_terms.declared.exprs.Binary.TheVariants as Binaries
use Rattle.concrete_steps.specs.tm_terms.declared.exprs.Infix.TheVariants as Infixes
use Rattle.concrete_steps.specs.tm_terms.declared.exprs.Prefix.TheVariants as Prefixes
use Rattle.concrete_steps.specs.tm_terms.ExprTrees.{a_name, a_prefix, an_infix, an_input, an_integer, an_islocked}
use Rattle.concrete_steps.specs.tm_trees.DeclarationTrees.{a_declared_name, a_plain, and_specifier, no_specifiers}
use Rattle.concrete_steps.specs.tm_trees.FileTrees.{a_block, a_declaration, a_lock, a_mutex, a_step, a_task, a_value}
use Rattle.concrete_steps.specs.tm_trees.FileTrees.{a_while}
use Rattle.concrete_steps.specs.tm_trees.FileTrees.{a_yield, an_if, an_unlock, and_part, no_parts, ItemTree}
use Rattle.concrete_steps.specs.tm_typed.Rules.{working_type, right_type, values_fold}
use Rattle.concrete_steps.specs.tm_typed.Files.{first_file_state, items_in}
use Rattle.concrete_steps.specs.tm_laid.CallTrees.{call_tree}
use Rattle.concrete_steps.specs.tm_laid.TypeCells.{cell_count, abstract_count, type_cells, type_abstracts}
use Rattle.concrete_steps.specs.tm_laid.Layouts.{LaidTree, layout_of}
use Rattle.lowering.specs.Built.{built, graph_of}
use Rattle.lowering.proofs.cases.Rows.{at, name, laid_of, row_of}

items : List ItemTree
unfolding at name
items = (a_mutex (name 8 1) (at 1 9)) ∷ (a_mutex (name 18 1) (at 1 19)) ∷ (a_declaration (record {
  specifiers =
      (and_specifier (a_plain (record { word = (Specs.Basic Basics.Int); place = (at 1 21) })) no_specifiers);
  declarators = (record { declarator = (a_declared_name [] (name 24 1) (at 1 25) []); initialiser = None }) ∷ [];
}))
    ∷ (a_declaration (record {
      specifiers = (and_specifier (a_plain (record {
        word = (Specs.Qualifier
            Qualifiers.Volatile);
        place = (at 1 27);
      })) (and_specifier (a_plain (record {
        word = (Specs.Basic Basics.Int);
        place = (at 1 36);
      })) no_specifiers));
      declarators = (record {
        declarator = (a_declared_name [] (name 39 1) (at 1
            40) []);
        initialiser = None;
      }) ∷ [];
    })) ∷ (a_task (an_integer (record {
      value = 2;
      decimal = true;
      unsigned =
          false;
      longs = Suffix.None;
    }) (at 2 8)) (name 57 1) (at 2 16) (and_part (a_step (a_lock (name 8 1) (at 2 31) (at 2
    24))) (and_part (a_step (a_value (Some (an_infix (a_name (name 24 1) (at 2 34)) Infixes.Assign (at 2 35) (a_name
    (name 39 1) (at 2 36)))))) (and_part (a_step (an_unlock (name 8 1) (at 2 47) (at 2 38))) (and_part (a_step
    (a_yield (at 2 50))) (and_part (a_step (an_if (a_prefix Prefixes.Not (an_islocked (name 18 1) (at 2 75) (at 2 64))
    (at 2 63)) (a_value (Some (an_infix (a_name (name 24 1) (at 2 78)) Infixes.Assign (at 2 79) (an_input (an_integer
    (record { value = 0; decimal = false; unsigned = false; longs = Suffix.None }) (at 2 88)) (an_integer (record {
      value = 9;
      decimal = true;
      unsigned = false;
      longs = Suffix.None;
    }) (at 2 90)) (at 2 80))))))) no_parts))))) (at 2
    1)) ∷ (a_task (an_integer (record { value = 1; decimal = true; unsigned = false; longs = Suffix.None }) (at 3 8))
    (name 151 1) (at 3 16) (and_part (a_step (a_while (an_integer (record {
      value = 1;
      decimal = true;
      unsigned =
          false;
      longs = Suffix.None;
    }) (at 3 30)) (a_block (and_part (a_step (a_lock (name 18 1) (at 3 40) (at 3 33)))
    (and_part (a_step (a_value (Some (an_infix (a_name (name 24 1) (at 3 43)) Infixes.Assign (at 3 44) (an_infix
    (a_name (name 24 1) (at 3 45)) (Infixes.Binary Binaries.Divide) (at 3 46) (an_integer (record {
      value = 2;
      decimal
          = true;
      unsigned = false;
      longs = Suffix.None;
    }) (at 3 47))))))) (and_part (a_step (an_unlock (name 18 1) (at 3
    58) (at 3 49))) (and_part (a_step (a_yield (at 3 61))) no_parts))))))) no_parts) (at 3 1)) ∷ []

laid : LaidTree
laid = laid_of (items_in first_file_state items) None

first_edges : map row_of (graph_of laid 0) ≡ (0 ∷ 1 ∷ 21 ∷ 0 ∷ 2 ∷ 24 ∷ []) ∷ (1 ∷ 2 ∷ 7 ∷ 0 ∷ 0 ∷ []) ∷ (2 ∷ 3 ∷ 7 ∷
    1 ∷ 1 ∷ []) ∷ (3 ∷ 4 ∷ 13 ∷ 2 ∷ 1 ∷ 2 ∷ 36 ∷ []) ∷ (4 ∷ 5 ∷ 14 ∷ 0 ∷ 2 ∷ 5 ∷ 0 ∷ 2 ∷ 35 ∷ []) ∷ (5 ∷ 6 ∷ 22 ∷ 0 ∷
    2 ∷ 38 ∷ []) ∷ (6 ∷ 7 ∷ 23 ∷ []) ∷ (7 ∷ 8 ∷ 24 ∷ 3 ∷ 1 ∷ 2 ∷ 64 ∷ []) ∷ (8 ∷ 9 ∷ 19 ∷ 15 ∷ 3 ∷ 0 ∷ []) ∷ (8 ∷ 10 ∷
    19 ∷ 14 ∷ 3 ∷ 0 ∷ []) ∷ (10 ∷ 11 ∷ 7 ∷ 4 ∷ 0 ∷ []) ∷ (11 ∷ 12 ∷ 15 ∷ 5 ∷ 0 ∷ 18 ∷ []) ∷ (12 ∷ 13 ∷ 14 ∷ 4 ∷ 5 ∷ 5
    ∷ 0 ∷ 2 ∷ 79 ∷ []) ∷ (13 ∷ 14 ∷ 0 ∷ []) ∷ (9 ∷ 14 ∷ 0 ∷ []) ∷ []
unfolding layout_of call_tree cell_count abstract_count type_cells type_abstracts laid items at name working_type right_type values_fold
first_edges = refl

first_nodes : (built laid 0).nodes ≡ 15
unfolding layout_of call_tree cell_count abstract_count type_cells type_abstracts laid items at name working_type right_type values_fold
first_nodes = refl

second_edges : map row_of (graph_of laid 1) ≡ (0 ∷ 1 ∷ 0 ∷ []) ∷ (1 ∷ 2 ∷ 1 ∷ 0 ∷ 2 ∷ []) ∷ (2 ∷ 3 ∷ 19 ∷ 15 ∷ 0 ∷ 0 ∷
    []) ∷ (2 ∷ 4 ∷ 19 ∷ 14 ∷ 0 ∷ 0 ∷ []) ∷ (3 ∷ 5 ∷ 21 ∷ 1 ∷ 3 ∷ 33 ∷ []) ∷ (5 ∷ 6 ∷ 7 ∷ 1 ∷ 0 ∷ []) ∷ (6 ∷ 7 ∷ 7 ∷ 2
    ∷ 0 ∷ []) ∷ (7 ∷ 8 ∷ 12 ∷ 3 ∷ 2 ∷ 5 ∷ 3 ∷ 45 ∷ []) ∷ (8 ∷ 9 ∷ 1 ∷ 4 ∷ 4 ∷ []) ∷ (9 ∷ 10 ∷ 4 ∷ 5 ∷ 3 ∷ 5 ∷ 3 ∷ 4 ∷
    3 ∷ 46 ∷ []) ∷ (10 ∷ 11 ∷ 14 ∷ 1 ∷ 5 ∷ 5 ∷ 0 ∷ 3 ∷ 44 ∷ []) ∷ (11 ∷ 12 ∷ 22 ∷ 1 ∷ 3 ∷ 49 ∷ []) ∷ (12 ∷ 13 ∷ 23 ∷
    []) ∷ (13 ∷ 1 ∷ 0 ∷ []) ∷ (4 ∷ 14 ∷ 0 ∷ []) ∷ []
unfolding layout_of call_tree cell_count abstract_count type_cells type_abstracts laid items at name working_type right_type values_fold
second_edges = refl

second_nodes : (built laid 1).nodes ≡ 15
unfolding layout_of call_tree cell_count abstract_count type_cells type_abstracts laid items at name working_type right_type values_fold
second_nodes = refl
