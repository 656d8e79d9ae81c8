-- The graph of a source, from the trees of its items, equal to the one of another implementation: loops without
-- a condition, and an empty `for`.
--
--   int i;
--   __task(1) void t(void){for(;;){i++;if(i>3)break;}for(;i;){i--;continue;}while(1){__yield();}}
use Rattle.std.proofs.Common.{◌≡◌, refl, true, false, List, [], ◌∷◌, map, Some, None}
use Rattle.concrete_steps.specs.tm_terms.declared.tokens.Longs.TheVariants as Suffix
use Rattle.concrete_steps.specs.tm_terms.declared.types_named.SpecWord.TheVariants as Specs
use Rattle.concrete_steps.specs.tm_terms.declared.types_named.Basic.TheVariants as Basics
use Rattle.concrete_steps.specs.tm_terms.declared.exprs.Binary.TheVariants as Binaries
use Rattle.concrete_steps.specs.tm_terms.declared.exprs.Infix.TheVariants as Infixes
use Rattle.concrete_steps.specs.tm_terms.declared.exprs.Postfix.TheVariants as Postfixes
use Rattle.concrete_steps.specs.tm_terms.ExprTrees.{a_name, a_postfix, an_infix, an_integer}
use Rattle.concrete_steps.specs.tm_trees.DeclarationTrees.{a_declared_name, a_plain, and_specifier, no_specifiers}
use Rattle.concrete_steps.specs.tm_trees.FileTrees.{a_block, a_break, a_continue, a_declaration, a_for, a_step, a_task}
use Rattle.concrete_steps.specs.tm_trees.FileTrees.{a_value}
use Rattle.concrete_steps.specs.tm_trees.FileTrees.{a_while, a_yield, an_if, and_part, by_expression, no_parts}
use Rattle.concrete_steps.specs.tm_trees.FileTrees.{ItemTree}
use Rattle.concrete_steps.specs.tm_typed.Rules.{working_type, right_type, values_fold}
use Rattle.concrete_steps.specs.tm_typed.Files.{first_file_state, items_in}
use Rattle.concrete_steps.specs.tm_laid.CallTrees.{call_tree}
use Rattle.concrete_steps.specs.tm_laid.TypeCells.{cell_count, abstract_count, type_cells, type_abstracts}
use Rattle.concrete_steps.specs.tm_laid.Layouts.{LaidTree, layout_of}
use Rattle.lowering.specs.Built.{built, graph_of}
use Rattle.lowering.proofs.cases.Rows.{at, name, laid_of, row_of}

items : List ItemTree
unfolding at name
items = (a_declaration (record {
  specifiers = (and_specifier (a_plain (record {
    word = (Specs.Basic Basics.Int);
    place
        = (at 1 1);
  })) no_specifiers);
  declarators = (record {
    declarator = (a_declared_name [] (name 4 1) (at 1 5) []);
    initialiser = None;
  }) ∷ [];
})) ∷ (a_task (an_integer (record {
  value = 1;
  decimal = true;
  unsigned = false;
  longs
      = Suffix.None;
}) (at 2 8)) (name 22 1) (at 2 16) (and_part (a_step (a_for (by_expression None) None None (a_block
    (and_part (a_step (a_value (Some (a_postfix (a_name (name 4 1) (at 2 32)) Postfixes.Increment (at 2 33)))))
    (and_part (a_step (an_if (an_infix (a_name (name 4 1) (at 2 39)) (Infixes.Binary Binaries.Greater) (at 2 40)
    (an_integer (record { value = 3; decimal = true; unsigned = false; longs = Suffix.None }) (at 2 41))) (a_break (at
    2 43)))) no_parts))))) (and_part (a_step (a_for (by_expression None) (Some (a_name (name 4 1) (at 2 55))) None
    (a_block (and_part (a_step (a_value (Some (a_postfix (a_name (name 4 1) (at 2 59)) Postfixes.Decrement (at 2
    60))))) (and_part (a_step (a_continue (at 2 63))) no_parts))))) (and_part (a_step (a_while (an_integer (record {
      value = 1;
      decimal = true;
      unsigned = false;
      longs = Suffix.None;
    }) (at 2 79)) (a_block (and_part (a_step (a_yield
    (at 2 82))) no_parts)))) no_parts))) (at 2 1)) ∷ []

laid : LaidTree
laid = laid_of (items_in first_file_state items) None

edges : map row_of (graph_of laid 0) ≡ (0 ∷ 1 ∷ 0 ∷ []) ∷ (1 ∷ 2 ∷ 7 ∷ 0 ∷ 0 ∷ []) ∷ (2 ∷ 3 ∷ 12 ∷ 1 ∷ 0 ∷ 5 ∷ 2 ∷ 32
    ∷ []) ∷ (3 ∷ 4 ∷ 1 ∷ 2 ∷ 2 ∷ []) ∷ (4 ∷ 5 ∷ 4 ∷ 3 ∷ 0 ∷ 5 ∷ 1 ∷ 2 ∷ 2 ∷ 33 ∷ []) ∷ (5 ∷ 6 ∷ 14 ∷ 0 ∷ 3 ∷ 5 ∷ 0 ∷ 2
    ∷ 33 ∷ []) ∷ (6 ∷ 7 ∷ 7 ∷ 4 ∷ 0 ∷ []) ∷ (7 ∷ 8 ∷ 12 ∷ 5 ∷ 4 ∷ 5 ∷ 2 ∷ 39 ∷ []) ∷ (8 ∷ 9 ∷ 1 ∷ 6 ∷ 6 ∷ []) ∷ (9 ∷
    10 ∷ 18 ∷ 12 ∷ 5 ∷ 6 ∷ []) ∷ (9 ∷ 11 ∷ 18 ∷ 11 ∷ 5 ∷ 6 ∷ []) ∷ (12 ∷ 13 ∷ 0 ∷ []) ∷ (11 ∷ 13 ∷ 0 ∷ []) ∷ (13 ∷ 1 ∷
    0 ∷ []) ∷ (10 ∷ 14 ∷ 0 ∷ []) ∷ (14 ∷ 15 ∷ 0 ∷ []) ∷ (15 ∷ 16 ∷ 7 ∷ 7 ∷ 0 ∷ []) ∷ (16 ∷ 17 ∷ 12 ∷ 8 ∷ 7 ∷ 5 ∷ 2 ∷
    55 ∷ []) ∷ (17 ∷ 18 ∷ 19 ∷ 15 ∷ 8 ∷ 0 ∷ []) ∷ (17 ∷ 19 ∷ 19 ∷ 14 ∷ 8 ∷ 0 ∷ []) ∷ (18 ∷ 20 ∷ 7 ∷ 9 ∷ 0 ∷ []) ∷ (20
    ∷ 21 ∷ 12 ∷ 10 ∷ 9 ∷ 5 ∷ 2 ∷ 59 ∷ []) ∷ (21 ∷ 22 ∷ 1 ∷ 11 ∷ 2 ∷ []) ∷ (22 ∷ 23 ∷ 4 ∷ 12 ∷ 1 ∷ 5 ∷ 10 ∷ 11 ∷ 2 ∷ 60
    ∷ []) ∷ (23 ∷ 24 ∷ 14 ∷ 9 ∷ 12 ∷ 5 ∷ 0 ∷ 2 ∷ 60 ∷ []) ∷ (24 ∷ 26 ∷ 0 ∷ []) ∷ (25 ∷ 26 ∷ 0 ∷ []) ∷ (26 ∷ 15 ∷ 0 ∷
    []) ∷ (19 ∷ 27 ∷ 0 ∷ []) ∷ (27 ∷ 28 ∷ 0 ∷ []) ∷ (28 ∷ 29 ∷ 1 ∷ 13 ∷ 2 ∷ []) ∷ (29 ∷ 30 ∷ 19 ∷ 15 ∷ 13 ∷ 0 ∷ []) ∷
    (29 ∷ 31 ∷ 19 ∷ 14 ∷ 13 ∷ 0 ∷ []) ∷ (30 ∷ 32 ∷ 23 ∷ []) ∷ (32 ∷ 28 ∷ 0 ∷ []) ∷ (31 ∷ 33 ∷ 0 ∷ []) ∷ []
unfolding layout_of call_tree cell_count abstract_count type_cells type_abstracts laid items at name working_type right_type values_fold
edges = refl

nodes : (built laid 0).nodes ≡ 34
unfolding layout_of call_tree cell_count abstract_count type_cells type_abstracts laid items at name working_type right_type values_fold
nodes = refl
