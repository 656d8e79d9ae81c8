-- The graph of a source, from the trees of its items, equal to the one of another implementation: labels, falling
-- through, `break`, and no default.
--
--   int x;int y;
--   __task(1) void t(void){switch(x){case 1:y=1;break;case 2:case 3:y=2;default:y=3;}switch(y){case
--     4:x=1;}switch(x)  {default:break;case -1:y=0;}}
use Rattle.std.proofs.Common.{◌≡◌, refl, true, false, List, [], ◌∷◌, map, Some, None}
use Rattle.concrete_steps.specs.tm_terms.declared.tokens.Longs.TheVariants as Suffix
use Rattle.concrete_steps.specs.tm_terms.declared.types_named.SpecWord.TheVariants as Specs
use Rattle.concrete_steps.specs.tm_terms.declared.types_named.Basic.TheVariants as Basics
use Rattle.concrete_steps.specs.tm_terms.declared.exprs.Infix.TheVariants as Infixes
use Rattle.concrete_steps.specs.tm_terms.declared.exprs.Prefix.TheVariants as Prefixes
use Rattle.concrete_steps.specs.tm_terms.ExprTrees.{a_name, an_integer, a_prefix, an_infix}
use Rattle.concrete_steps.specs.tm_trees.DeclarationTrees.{a_declared_name, a_plain, no_specifiers, and_specifier}
use Rattle.concrete_steps.specs.tm_trees.FileTrees.{a_value, a_switch, a_break, a_step, no_parts, and_part, a_case}
use Rattle.concrete_steps.specs.tm_trees.FileTrees.{a_default}
use Rattle.concrete_steps.specs.tm_trees.FileTrees.{a_case_step, no_cases, and_case, ItemTree, a_declaration, a_task}
use Rattle.concrete_steps.specs.tm_typed.Rules.{working_type, right_type, values_fold}
use Rattle.concrete_steps.specs.tm_typed.Files.{first_file_state, items_in}
use Rattle.concrete_steps.specs.tm_laid.CallTrees.{call_tree}
use Rattle.concrete_steps.specs.tm_laid.TypeCells.{cell_count, abstract_count, type_cells, type_abstracts}
use Rattle.concrete_steps.specs.tm_laid.Layouts.{LaidTree, layout_of}
use Rattle.lowering.specs.Built.{built, graph_of}
use Rattle.lowering.proofs.cases.Rows.{at, name, laid_of, row_of}

items : List ItemTree
unfolding at name
items = (a_declaration (record {
  specifiers = (and_specifier (a_plain (record {
    word = (Specs.Basic Basics.Int);
    place = (at 1 1);
  })) no_specifiers);
  declarators = (record {
    declarator = (a_declared_name ([]) (name 4 1) (at 1
        5) ([]));
    initialiser = None;
  }) ∷ [];
})) ∷ (a_declaration (record {
  specifiers = (and_specifier (a_plain (record
      { word = (Specs.Basic Basics.Int); place = (at 1 7) })) no_specifiers);
  declarators = (record {
    declarator =
        (a_declared_name ([]) (name 10 1) (at 1 11) ([]));
    initialiser = None;
  }) ∷ [];
})) ∷ (a_task (an_integer (record
    { value = 1; decimal = true; unsigned = false; longs = Suffix.None }) (at 2 8)) (name 28 1) (at 2 16) (and_part
    (a_step (a_switch (a_name (name 4 1) (at 2 31)) (and_case (a_case (an_integer (record {
      value = 1;
      decimal =
          true;
      unsigned = false;
      longs = Suffix.None;
    }) (at 2 39)) (at 2 34)) (and_case (a_case_step (a_value (Some
    (an_infix (a_name (name 10 1) (at 2 41)) Infixes.Assign (at 2 42) (an_integer (record {
      value = 1;
      decimal =
          true;
      unsigned = false;
      longs = Suffix.None;
    }) (at 2 43)))))) (and_case (a_case_step (a_break (at 2 45)))
    (and_case (a_case (an_integer (record { value = 2; decimal = true; unsigned = false; longs = Suffix.None }) (at
    2 56)) (at 2 51)) (and_case (a_case (an_integer (record {
      value = 3;
      decimal = true;
      unsigned = false;
      longs =
          Suffix.None;
    }) (at 2 63)) (at 2 58)) (and_case (a_case_step (a_value (Some (an_infix (a_name (name 10 1) (at 2
    65)) Infixes.Assign (at 2 66) (an_integer (record {
      value = 2;
      decimal = true;
      unsigned = false;
      longs =
          Suffix.None;
    }) (at 2 67)))))) (and_case (a_default (at 2 69)) (and_case (a_case_step (a_value (Some (an_infix
    (a_name (name 10 1) (at 2 77)) Infixes.Assign (at 2 78) (an_integer (record {
      value = 3;
      decimal = true;
      unsigned = false;
      longs = Suffix.None;
    }) (at 2 79)))))) no_cases)))))))))) (and_part (a_step (a_switch (a_name
    (name 10 1) (at 2 89)) (and_case (a_case (an_integer (record {
      value = 4;
      decimal = true;
      unsigned = false;
      longs = Suffix.None;
    }) (at 2 97)) (at 2 92)) (and_case (a_case_step (a_value (Some (an_infix (a_name (name 4 1)
    (at 2 99)) Infixes.Assign (at 2 100) (an_integer (record {
      value = 1;
      decimal = true;
      unsigned = false;
      longs =
          Suffix.None;
    }) (at 2 101)))))) no_cases)))) (and_part (a_step (a_switch (a_name (name 4 1) (at 2 111)) (and_case
    (a_default (at 2 116)) (and_case (a_case_step (a_break (at 2 124))) (and_case (a_case (a_prefix Prefixes.Minus
    (an_integer (record { value = 1; decimal = true; unsigned = false; longs = Suffix.None }) (at 2 136)) (at 2
    135)) (at 2 130)) (and_case (a_case_step (a_value (Some (an_infix (a_name (name 10 1) (at 2 138)) Infixes.Assign
    (at 2 139) (an_integer (record { value = 0; decimal = false; unsigned = false; longs = Suffix.None }) (at 2
    140)))))) no_cases)))))) no_parts))) (at 2 1)) ∷ []

laid : LaidTree
laid = laid_of (items_in first_file_state items) None

edges : map row_of (graph_of laid 0) ≡ (0 ∷ 1 ∷ 7 ∷ 0 ∷ 0 ∷ []) ∷ (1 ∷ 2 ∷ 12 ∷ 1 ∷ 0 ∷ 5 ∷ 2 ∷ 31 ∷ []) ∷ (2 ∷ 3 ∷
    19 ∷ 14 ∷ 1 ∷ 2 ∷ []) ∷ (2 ∷ 4 ∷ 19 ∷ 15 ∷ 1 ∷ 2 ∷ []) ∷ (4 ∷ 5 ∷ 19 ∷ 14 ∷ 1 ∷ 4 ∷ []) ∷ (4 ∷ 6 ∷ 19 ∷ 15 ∷ 1 ∷
    4 ∷ []) ∷ (6 ∷ 7 ∷ 19 ∷ 14 ∷ 1 ∷ 6 ∷ []) ∷ (6 ∷ 8 ∷ 19 ∷ 15 ∷ 1 ∷ 6 ∷ []) ∷ (3 ∷ 10 ∷ 0 ∷ []) ∷ (9 ∷ 10 ∷ 0 ∷
    []) ∷ (10 ∷ 11 ∷ 7 ∷ 2 ∷ 1 ∷ []) ∷ (11 ∷ 12 ∷ 1 ∷ 3 ∷ 2 ∷ []) ∷ (12 ∷ 13 ∷ 14 ∷ 2 ∷ 3 ∷ 5 ∷ 1 ∷ 2 ∷ 42 ∷ []) ∷
    (5 ∷ 15 ∷ 0 ∷ []) ∷ (14 ∷ 15 ∷ 0 ∷ []) ∷ (7 ∷ 16 ∷ 0 ∷ []) ∷ (15 ∷ 16 ∷ 0 ∷ []) ∷ (16 ∷ 17 ∷ 7 ∷ 4 ∷ 1 ∷ []) ∷
    (17 ∷ 18 ∷ 1 ∷ 5 ∷ 4 ∷ []) ∷ (18 ∷ 19 ∷ 14 ∷ 4 ∷ 5 ∷ 5 ∷ 1 ∷ 2 ∷ 66 ∷ []) ∷ (8 ∷ 20 ∷ 0 ∷ []) ∷ (19 ∷ 20 ∷ 0 ∷
    []) ∷ (20 ∷ 21 ∷ 7 ∷ 6 ∷ 1 ∷ []) ∷ (21 ∷ 22 ∷ 1 ∷ 7 ∷ 6 ∷ []) ∷ (22 ∷ 23 ∷ 14 ∷ 6 ∷ 7 ∷ 5 ∷ 1 ∷ 2 ∷ 78 ∷ []) ∷
    (13 ∷ 24 ∷ 0 ∷ []) ∷ (23 ∷ 24 ∷ 0 ∷ []) ∷ (24 ∷ 25 ∷ 7 ∷ 8 ∷ 1 ∷ []) ∷ (25 ∷ 26 ∷ 12 ∷ 9 ∷ 8 ∷ 5 ∷ 2 ∷ 89 ∷ [])
    ∷ (26 ∷ 27 ∷ 19 ∷ 14 ∷ 9 ∷ 8 ∷ []) ∷ (26 ∷ 28 ∷ 19 ∷ 15 ∷ 9 ∷ 8 ∷ []) ∷ (27 ∷ 30 ∷ 0 ∷ []) ∷ (29 ∷ 30 ∷ 0 ∷ [])
    ∷ (30 ∷ 31 ∷ 7 ∷ 10 ∷ 0 ∷ []) ∷ (31 ∷ 32 ∷ 1 ∷ 11 ∷ 2 ∷ []) ∷ (32 ∷ 33 ∷ 14 ∷ 10 ∷ 11 ∷ 5 ∷ 0 ∷ 2 ∷ 100 ∷ []) ∷
    (28 ∷ 34 ∷ 0 ∷ []) ∷ (33 ∷ 34 ∷ 0 ∷ []) ∷ (34 ∷ 35 ∷ 7 ∷ 12 ∷ 0 ∷ []) ∷ (35 ∷ 36 ∷ 12 ∷ 13 ∷ 12 ∷ 5 ∷ 2 ∷ 111 ∷
    []) ∷ (36 ∷ 37 ∷ 19 ∷ 14 ∷ 13 ∷ 1 ∷ []) ∷ (36 ∷ 38 ∷ 19 ∷ 15 ∷ 13 ∷ 1 ∷ []) ∷ (38 ∷ 40 ∷ 0 ∷ []) ∷ (39 ∷ 40 ∷ 0
    ∷ []) ∷ (37 ∷ 42 ∷ 0 ∷ []) ∷ (41 ∷ 42 ∷ 0 ∷ []) ∷ (42 ∷ 43 ∷ 7 ∷ 14 ∷ 1 ∷ []) ∷ (43 ∷ 44 ∷ 1 ∷ 15 ∷ 0 ∷ []) ∷
    (44 ∷ 45 ∷ 14 ∷ 14 ∷ 15 ∷ 5 ∷ 1 ∷ 2 ∷ 139 ∷ []) ∷ (40 ∷ 46 ∷ 0 ∷ []) ∷ (45 ∷ 46 ∷ 0 ∷ []) ∷ []
unfolding layout_of call_tree cell_count abstract_count type_cells type_abstracts laid items at name working_type right_type values_fold
edges = refl

nodes : (built laid 0).nodes ≡ 47
unfolding layout_of call_tree cell_count abstract_count type_cells type_abstracts laid items at name working_type right_type values_fold
nodes = refl
