-- The graph of a source, from the trees of its items, equal to the one of another implementation: conditions and
-- operands that are constants.
--
--   int x;int y;
--   __task(1) void t(void){do{x=1;}while(0);if(1<2)y=1;while(0)y=2;y=sizeof(int)+2*3;if(2){y=4;}}
use Rattle.std.proofs.Common.{◌≡◌, refl, true, false, List, [], ◌∷◌, map, Some, None}
use Rattle.concrete_steps.specs.tm_terms.declared.tokens.Longs.TheVariants as Suffix
use Rattle.concrete_steps.specs.tm_terms.declared.types_named.SpecWord.TheVariants as Specs
use Rattle.concrete_steps.specs.tm_terms.declared.types_named.Basic.TheVariants as Basics
use Rattle.concrete_steps.specs.tm_terms.declared.exprs.Binary.TheVariants as Binaries
use Rattle.concrete_steps.specs.tm_terms.declared.exprs.Infix.TheVariants as Infixes
use Rattle.concrete_steps.specs.tm_terms.ExprTrees.{a_name, a_sizeof_type, an_infix, an_integer}
use Rattle.concrete_steps.specs.tm_trees.DeclarationTrees.{a_declared_name, a_plain, and_specifier, no_specifiers}
use Rattle.concrete_steps.specs.tm_trees.FileTrees.{a_block, a_declaration, a_do, a_step, a_task, a_value, a_while}
use Rattle.concrete_steps.specs.tm_trees.FileTrees.{an_if, and_part}
use Rattle.concrete_steps.specs.tm_trees.FileTrees.{no_parts, ItemTree}
use Rattle.concrete_steps.specs.tm_typed.Rules.{working_type, right_type, values_fold}
use Rattle.concrete_steps.specs.tm_typed.Files.{first_file_state, items_in}
use Rattle.concrete_steps.specs.tm_laid.CallTrees.{call_tree}
use Rattle.concrete_steps.specs.tm_laid.TypeCells.{cell_count, abstract_count, type_cells, type_abstracts}
use Rattle.concrete_steps.specs.tm_laid.Layouts.{LaidTree, layout_of}
use Rattle.lowering.specs.Built.{built, graph_of}
use Rattle.lowering.proofs.cases.Rows.{at, name, laid_of, row_of}

items : List ItemTree
unfolding at name
items = (a_declaration (record {
  specifiers = (and_specifier (a_plain (record {
    word = (Specs.Basic Basics.Int);
    place
        = (at 1 1);
  })) no_specifiers);
  declarators = (record {
    declarator = (a_declared_name [] (name 4 1) (at 1 5) []);
    initialiser = None;
  }) ∷ [];
})) ∷ (a_declaration (record {
  specifiers = (and_specifier (a_plain (record {
    word =
        (Specs.Basic Basics.Int);
    place = (at 1 7);
  })) no_specifiers);
  declarators = (record {
    declarator =
        (a_declared_name [] (name 10 1) (at 1 11) []);
    initialiser = None;
  }) ∷ [];
})) ∷ (a_task (an_integer (record {
  value = 1;
  decimal = true;
  unsigned = false;
  longs = Suffix.None;
}) (at 2 8)) (name 28 1) (at 2 16) (and_part
    (a_step (a_do (a_block (and_part (a_step (a_value (Some (an_infix (a_name (name 4 1) (at 2 27)) Infixes.Assign (at
    2 28) (an_integer (record { value = 1; decimal = true; unsigned = false; longs = Suffix.None }) (at 2 29))))))
    no_parts)) (an_integer (record { value = 0; decimal = false; unsigned = false; longs = Suffix.None }) (at 2 38))))
    (and_part (a_step (an_if (an_infix (an_integer (record {
      value = 1;
      decimal = true;
      unsigned = false;
      longs =
          Suffix.None;
    }) (at 2 44)) (Infixes.Binary Binaries.Less) (at 2 45) (an_integer (record {
      value = 2;
      decimal =
          true;
      unsigned = false;
      longs = Suffix.None;
    }) (at 2 46))) (a_value (Some (an_infix (a_name (name 10 1) (at 2 48))
    Infixes.Assign (at 2 49) (an_integer (record { value = 1; decimal = true; unsigned = false; longs = Suffix.None })
    (at 2 50))))))) (and_part (a_step (a_while (an_integer (record {
      value = 0;
      decimal = false;
      unsigned = false;
      longs = Suffix.None;
    }) (at 2 58)) (a_value (Some (an_infix (a_name (name 10 1) (at 2 60)) Infixes.Assign (at 2 61)
    (an_integer (record { value = 2; decimal = true; unsigned = false; longs = Suffix.None }) (at 2 62)))))))
    (and_part (a_step (a_value (Some (an_infix (a_name (name 10 1) (at 2 64)) Infixes.Assign (at 2 65) (an_infix
    (a_sizeof_type (record {
      specs = (record { word = (Specs.Basic Basics.Int); place = (at 2 73) }) ∷ [];
      pointers =
          [];
    }) (at 2 66)) (Infixes.Binary Binaries.Add) (at 2 77) (an_infix (an_integer (record {
      value = 2;
      decimal =
          true;
      unsigned = false;
      longs = Suffix.None;
    }) (at 2 78)) (Infixes.Binary Binaries.Multiply) (at 2 79) (an_integer
    (record { value = 3; decimal = true; unsigned = false; longs = Suffix.None }) (at 2 80)))))))) (and_part (a_step
    (an_if (an_integer (record { value = 2; decimal = true; unsigned = false; longs = Suffix.None }) (at 2 85))
    (a_block (and_part (a_step (a_value (Some (an_infix (a_name (name 10 1) (at 2 88)) Infixes.Assign (at 2 89)
    (an_integer (record { value = 4; decimal = true; unsigned = false; longs = Suffix.None }) (at 2 90))))))
    no_parts)))) no_parts))))) (at 2 1)) ∷ []

laid : LaidTree
laid = laid_of (items_in first_file_state items) None

edges : map row_of (graph_of laid 0) ≡ (0 ∷ 1 ∷ 0 ∷ []) ∷ (1 ∷ 2 ∷ 7 ∷ 0 ∷ 0 ∷ []) ∷ (2 ∷ 3 ∷ 1 ∷ 1 ∷ 2 ∷ []) ∷ (3 ∷ 4
    ∷ 14 ∷ 0 ∷ 1 ∷ 5 ∷ 0 ∷ 2 ∷ 28 ∷ []) ∷ (4 ∷ 5 ∷ 1 ∷ 2 ∷ 0 ∷ []) ∷ (5 ∷ 6 ∷ 19 ∷ 15 ∷ 2 ∷ 0 ∷ []) ∷ (5 ∷ 7 ∷ 19 ∷ 14
    ∷ 2 ∷ 0 ∷ []) ∷ (6 ∷ 1 ∷ 0 ∷ []) ∷ (7 ∷ 8 ∷ 0 ∷ []) ∷ (8 ∷ 9 ∷ 1 ∷ 3 ∷ 2 ∷ []) ∷ (9 ∷ 10 ∷ 1 ∷ 4 ∷ 4 ∷ []) ∷ (10 ∷
    11 ∷ 18 ∷ 10 ∷ 3 ∷ 4 ∷ []) ∷ (10 ∷ 12 ∷ 18 ∷ 13 ∷ 3 ∷ 4 ∷ []) ∷ (11 ∷ 13 ∷ 7 ∷ 5 ∷ 1 ∷ []) ∷ (13 ∷ 14 ∷ 1 ∷ 6 ∷ 2
    ∷ []) ∷ (14 ∷ 15 ∷ 14 ∷ 5 ∷ 6 ∷ 5 ∷ 1 ∷ 2 ∷ 49 ∷ []) ∷ (15 ∷ 16 ∷ 0 ∷ []) ∷ (12 ∷ 16 ∷ 0 ∷ []) ∷ (16 ∷ 17 ∷ 0 ∷
    []) ∷ (17 ∷ 18 ∷ 1 ∷ 7 ∷ 0 ∷ []) ∷ (18 ∷ 19 ∷ 19 ∷ 15 ∷ 7 ∷ 0 ∷ []) ∷ (18 ∷ 20 ∷ 19 ∷ 14 ∷ 7 ∷ 0 ∷ []) ∷ (19 ∷ 21
    ∷ 7 ∷ 8 ∷ 1 ∷ []) ∷ (21 ∷ 22 ∷ 1 ∷ 9 ∷ 4 ∷ []) ∷ (22 ∷ 23 ∷ 14 ∷ 8 ∷ 9 ∷ 5 ∷ 1 ∷ 2 ∷ 61 ∷ []) ∷ (23 ∷ 17 ∷ 0 ∷ [])
    ∷ (20 ∷ 24 ∷ 0 ∷ []) ∷ (24 ∷ 25 ∷ 7 ∷ 10 ∷ 1 ∷ []) ∷ (25 ∷ 26 ∷ 1 ∷ 11 ∷ 20 ∷ []) ∷ (26 ∷ 27 ∷ 6 ∷ 12 ∷ 5 ∷ 11 ∷
    []) ∷ (27 ∷ 28 ∷ 14 ∷ 10 ∷ 12 ∷ 5 ∷ 1 ∷ 2 ∷ 65 ∷ []) ∷ (28 ∷ 29 ∷ 1 ∷ 13 ∷ 4 ∷ []) ∷ (29 ∷ 30 ∷ 19 ∷ 15 ∷ 13 ∷ 0 ∷
    []) ∷ (29 ∷ 31 ∷ 19 ∷ 14 ∷ 13 ∷ 0 ∷ []) ∷ (30 ∷ 32 ∷ 7 ∷ 14 ∷ 1 ∷ []) ∷ (32 ∷ 33 ∷ 1 ∷ 15 ∷ 8 ∷ []) ∷ (33 ∷ 34 ∷
    14 ∷ 14 ∷ 15 ∷ 5 ∷ 1 ∷ 2 ∷ 89 ∷ []) ∷ (34 ∷ 35 ∷ 0 ∷ []) ∷ (31 ∷ 35 ∷ 0 ∷ []) ∷ []
unfolding layout_of call_tree cell_count abstract_count type_cells type_abstracts laid items at name working_type right_type values_fold
edges = refl

nodes : (built laid 0).nodes ≡ 36
unfolding layout_of call_tree cell_count abstract_count type_cells type_abstracts laid items at name working_type right_type values_fold
nodes = refl
