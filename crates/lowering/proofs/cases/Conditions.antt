-- The graph of a source, from the trees of its items, equal to the one of another implementation: conditions of
-- integers and pointers.
--
--   int x;int y;int*p;
--   __task(1) void t(void){if(x&&y)x=1;else x=2;if(!x||y<3)y=1;if(p)x=3;if(p==&x)x=4;x=x&&y;y=!x;x=x?y:3;}
use Rattle.std.proofs.Common.{◌≡◌, refl, true, false, List, [], ◌∷◌, map, Some, None}
use Rattle.concrete_steps.specs.tm_terms.declared.tokens.Longs.TheVariants as Suffix
use Rattle.concrete_steps.specs.tm_terms.declared.types_named.SpecWord.TheVariants as Specs
use Rattle.concrete_steps.specs.tm_terms.declared.types_named.Basic.TheVariants as Basics
use Rattle.concrete_steps.specs.tm_terms.declared.types_named.PointerWord.TheVariants as PointerWords
use Rattle.concrete_steps.specs.tm_terms.declared.exprs.Binary.TheVariants as Binaries
use Rattle.concrete_steps.specs.tm_terms.declared.exprs.Infix.TheVariants as Infixes
use Rattle.concrete_steps.specs.tm_terms.declared.exprs.Prefix.TheVariants as Prefixes
use Rattle.concrete_steps.specs.tm_terms.ExprTrees.{a_conditional, a_name, a_prefix, an_infix, an_integer}
use Rattle.concrete_steps.specs.tm_trees.DeclarationTrees.{a_declared_name, a_plain, and_specifier, no_specifiers}
use Rattle.concrete_steps.specs.tm_trees.FileTrees.{a_declaration, a_step, a_task, a_value, an_if, an_if_else, and_part}
use Rattle.concrete_steps.specs.tm_trees.FileTrees.{no_parts}
use Rattle.concrete_steps.specs.tm_trees.FileTrees.{ItemTree}
use Rattle.concrete_steps.specs.tm_typed.Rules.{working_type, right_type, values_fold}
use Rattle.concrete_steps.specs.tm_typed.Files.{first_file_state, items_in}
use Rattle.concrete_steps.specs.tm_laid.CallTrees.{call_tree}
use Rattle.concrete_steps.specs.tm_laid.TypeCells.{cell_count, abstract_count, type_cells, type_abstracts}
use Rattle.concrete_steps.specs.tm_laid.Layouts.{LaidTree, layout_of}
use Rattle.lowering.specs.Built.{built, graph_of}
use Rattle.lowering.proofs.cases.Rows.{at, name, laid_of, row_of}

items : List ItemTree
unfolding at name
items = (a_declaration (record {
  specifiers = (and_specifier (a_plain (record {
    word = (Specs.Basic Basics.Int);
    place
        = (at 1 1);
  })) no_specifiers);
  declarators = (record {
    declarator = (a_declared_name [] (name 4 1) (at 1 5) []);
    initialiser = None;
  }) ∷ [];
})) ∷ (a_declaration (record {
  specifiers = (and_specifier (a_plain (record {
    word =
        (Specs.Basic Basics.Int);
    place = (at 1 7);
  })) no_specifiers);
  declarators = (record {
    declarator =
        (a_declared_name [] (name 10 1) (at 1 11) []);
    initialiser = None;
  }) ∷ [];
})) ∷ (a_declaration (record {
  specifiers = (and_specifier (a_plain (record { word = (Specs.Basic Basics.Int); place = (at 1 13) }))
      no_specifiers);
  declarators = (record {
    declarator = (a_declared_name (PointerWords.Star ∷ []) (name 16 1) (at 1
        17) []);
    initialiser = None;
  }) ∷ [];
})) ∷ (a_task (an_integer (record {
  value = 1;
  decimal = true;
  unsigned =
      false;
  longs = Suffix.None;
}) (at 2 8)) (name 34 1) (at 2 16) (and_part (a_step (an_if_else (an_infix (a_name
    (name 4 1) (at 2 27)) (Infixes.Binary Binaries.And) (at 2 28) (a_name (name 10 1) (at 2 30))) (a_value (Some
    (an_infix (a_name (name 4 1) (at 2 32)) Infixes.Assign (at 2 33) (an_integer (record {
      value = 1;
      decimal = true;
      unsigned = false;
      longs = Suffix.None;
    }) (at 2 34))))) (a_value (Some (an_infix (a_name (name 4 1) (at 2 41))
    Infixes.Assign (at 2 42) (an_integer (record { value = 2; decimal = true; unsigned = false; longs = Suffix.None })
    (at 2 43))))))) (and_part (a_step (an_if (an_infix (a_prefix Prefixes.Not (a_name (name 4 1) (at 2 49)) (at 2 48))
    (Infixes.Binary Binaries.Or) (at 2 50) (an_infix (a_name (name 10 1) (at 2 52)) (Infixes.Binary Binaries.Less) (at
    2 53) (an_integer (record { value = 3; decimal = true; unsigned = false; longs = Suffix.None }) (at 2 54))))
    (a_value (Some (an_infix (a_name (name 10 1) (at 2 56)) Infixes.Assign (at 2 57) (an_integer (record {
      value = 1;
      decimal = true;
      unsigned = false;
      longs = Suffix.None;
    }) (at 2 58))))))) (and_part (a_step (an_if (a_name (name 16
    1) (at 2 63)) (a_value (Some (an_infix (a_name (name 4 1) (at 2 65)) Infixes.Assign (at 2 66) (an_integer (record
    { value = 3; decimal = true; unsigned = false; longs = Suffix.None }) (at 2 67))))))) (and_part (a_step (an_if
    (an_infix (a_name (name 16 1) (at 2 72)) (Infixes.Binary Binaries.Equal) (at 2 73) (a_prefix Prefixes.Address
    (a_name (name 4 1) (at 2 76)) (at 2 75))) (a_value (Some (an_infix (a_name (name 4 1) (at 2 78)) Infixes.Assign
    (at 2 79) (an_integer (record { value = 4; decimal = true; unsigned = false; longs = Suffix.None }) (at 2
    80))))))) (and_part (a_step (a_value (Some (an_infix (a_name (name 4 1) (at 2 82)) Infixes.Assign (at 2 83)
    (an_infix (a_name (name 4 1) (at 2 84)) (Infixes.Binary Binaries.And) (at 2 85) (a_name (name 10 1) (at 2
    87))))))) (and_part (a_step (a_value (Some (an_infix (a_name (name 10 1) (at 2 89)) Infixes.Assign (at 2 90)
    (a_prefix Prefixes.Not (a_name (name 4 1) (at 2 92)) (at 2 91)))))) (and_part (a_step (a_value (Some (an_infix
    (a_name (name 4 1) (at 2 94)) Infixes.Assign (at 2 95) (a_conditional (a_name (name 4 1) (at 2 96)) (at 2 97)
    (a_name (name 10 1) (at 2 98)) (an_integer (record {
      value = 3;
      decimal = true;
      unsigned = false;
      longs =
          Suffix.None;
    }) (at 2 100))))))) no_parts))))))) (at 2 1)) ∷ []

laid : LaidTree
laid = laid_of (items_in first_file_state items) None

edges : map row_of (graph_of laid 0) ≡ (0 ∷ 1 ∷ 7 ∷ 0 ∷ 0 ∷ []) ∷ (1 ∷ 2 ∷ 12 ∷ 1 ∷ 0 ∷ 5 ∷ 2 ∷ 27 ∷ []) ∷ (2 ∷ 3 ∷ 19
    ∷ 15 ∷ 1 ∷ 0 ∷ []) ∷ (2 ∷ 4 ∷ 19 ∷ 14 ∷ 1 ∷ 0 ∷ []) ∷ (3 ∷ 5 ∷ 7 ∷ 2 ∷ 1 ∷ []) ∷ (5 ∷ 6 ∷ 12 ∷ 3 ∷ 2 ∷ 5 ∷ 2 ∷ 30
    ∷ []) ∷ (6 ∷ 7 ∷ 19 ∷ 15 ∷ 3 ∷ 0 ∷ []) ∷ (6 ∷ 8 ∷ 19 ∷ 14 ∷ 3 ∷ 0 ∷ []) ∷ (4 ∷ 9 ∷ 0 ∷ []) ∷ (8 ∷ 9 ∷ 0 ∷ []) ∷ (7
    ∷ 10 ∷ 7 ∷ 4 ∷ 0 ∷ []) ∷ (10 ∷ 11 ∷ 1 ∷ 5 ∷ 2 ∷ []) ∷ (11 ∷ 12 ∷ 14 ∷ 4 ∷ 5 ∷ 5 ∷ 0 ∷ 2 ∷ 33 ∷ []) ∷ (9 ∷ 13 ∷ 7 ∷
    6 ∷ 0 ∷ []) ∷ (13 ∷ 14 ∷ 1 ∷ 7 ∷ 4 ∷ []) ∷ (14 ∷ 15 ∷ 14 ∷ 6 ∷ 7 ∷ 5 ∷ 0 ∷ 2 ∷ 42 ∷ []) ∷ (12 ∷ 16 ∷ 0 ∷ []) ∷ (15
    ∷ 16 ∷ 0 ∷ []) ∷ (16 ∷ 17 ∷ 7 ∷ 8 ∷ 0 ∷ []) ∷ (17 ∷ 18 ∷ 12 ∷ 9 ∷ 8 ∷ 5 ∷ 2 ∷ 49 ∷ []) ∷ (18 ∷ 19 ∷ 19 ∷ 15 ∷ 9 ∷
    0 ∷ []) ∷ (18 ∷ 20 ∷ 19 ∷ 14 ∷ 9 ∷ 0 ∷ []) ∷ (19 ∷ 21 ∷ 7 ∷ 10 ∷ 1 ∷ []) ∷ (21 ∷ 22 ∷ 12 ∷ 11 ∷ 10 ∷ 5 ∷ 2 ∷ 52 ∷
    []) ∷ (22 ∷ 23 ∷ 1 ∷ 12 ∷ 6 ∷ []) ∷ (23 ∷ 24 ∷ 18 ∷ 10 ∷ 11 ∷ 12 ∷ []) ∷ (23 ∷ 25 ∷ 18 ∷ 13 ∷ 11 ∷ 12 ∷ []) ∷ (20
    ∷ 26 ∷ 0 ∷ []) ∷ (24 ∷ 26 ∷ 0 ∷ []) ∷ (26 ∷ 27 ∷ 7 ∷ 13 ∷ 1 ∷ []) ∷ (27 ∷ 28 ∷ 1 ∷ 14 ∷ 2 ∷ []) ∷ (28 ∷ 29 ∷ 14 ∷
    13 ∷ 14 ∷ 5 ∷ 1 ∷ 2 ∷ 57 ∷ []) ∷ (29 ∷ 30 ∷ 0 ∷ []) ∷ (25 ∷ 30 ∷ 0 ∷ []) ∷ (30 ∷ 31 ∷ 7 ∷ 15 ∷ 2 ∷ []) ∷ (31 ∷ 32
    ∷ 12 ∷ 16 ∷ 15 ∷ 20 ∷ 2 ∷ 63 ∷ []) ∷ (32 ∷ 33 ∷ 17 ∷ 16 ∷ 2 ∷ 63 ∷ []) ∷ (33 ∷ 34 ∷ 19 ∷ 15 ∷ 16 ∷ 0 ∷ []) ∷ (33 ∷
    35 ∷ 19 ∷ 14 ∷ 16 ∷ 0 ∷ []) ∷ (34 ∷ 36 ∷ 7 ∷ 17 ∷ 0 ∷ []) ∷ (36 ∷ 37 ∷ 1 ∷ 18 ∷ 6 ∷ []) ∷ (37 ∷ 38 ∷ 14 ∷ 17 ∷ 18
    ∷ 5 ∷ 0 ∷ 2 ∷ 66 ∷ []) ∷ (38 ∷ 39 ∷ 0 ∷ []) ∷ (35 ∷ 39 ∷ 0 ∷ []) ∷ (39 ∷ 40 ∷ 7 ∷ 19 ∷ 2 ∷ []) ∷ (40 ∷ 41 ∷ 12 ∷
    20 ∷ 19 ∷ 20 ∷ 2 ∷ 72 ∷ []) ∷ (41 ∷ 42 ∷ 7 ∷ 21 ∷ 0 ∷ []) ∷ (42 ∷ 43 ∷ 17 ∷ 20 ∷ 2 ∷ 73 ∷ []) ∷ (43 ∷ 44 ∷ 17 ∷ 21
    ∷ 2 ∷ 73 ∷ []) ∷ (44 ∷ 45 ∷ 18 ∷ 14 ∷ 20 ∷ 21 ∷ []) ∷ (44 ∷ 46 ∷ 18 ∷ 15 ∷ 20 ∷ 21 ∷ []) ∷ (45 ∷ 47 ∷ 7 ∷ 22 ∷ 0 ∷
    []) ∷ (47 ∷ 48 ∷ 1 ∷ 23 ∷ 8 ∷ []) ∷ (48 ∷ 49 ∷ 14 ∷ 22 ∷ 23 ∷ 5 ∷ 0 ∷ 2 ∷ 79 ∷ []) ∷ (49 ∷ 50 ∷ 0 ∷ []) ∷ (46 ∷ 50
    ∷ 0 ∷ []) ∷ (50 ∷ 51 ∷ 7 ∷ 24 ∷ 0 ∷ []) ∷ (51 ∷ 52 ∷ 7 ∷ 25 ∷ 0 ∷ []) ∷ (52 ∷ 53 ∷ 12 ∷ 26 ∷ 25 ∷ 5 ∷ 2 ∷ 84 ∷ [])
    ∷ (53 ∷ 54 ∷ 19 ∷ 15 ∷ 26 ∷ 0 ∷ []) ∷ (53 ∷ 55 ∷ 19 ∷ 14 ∷ 26 ∷ 0 ∷ []) ∷ (54 ∷ 56 ∷ 7 ∷ 27 ∷ 1 ∷ []) ∷ (56 ∷ 57 ∷
    12 ∷ 28 ∷ 27 ∷ 5 ∷ 2 ∷ 87 ∷ []) ∷ (57 ∷ 58 ∷ 19 ∷ 15 ∷ 28 ∷ 0 ∷ []) ∷ (57 ∷ 59 ∷ 19 ∷ 14 ∷ 28 ∷ 0 ∷ []) ∷ (55 ∷ 60
    ∷ 0 ∷ []) ∷ (59 ∷ 60 ∷ 0 ∷ []) ∷ (58 ∷ 61 ∷ 1 ∷ 29 ∷ 2 ∷ []) ∷ (60 ∷ 62 ∷ 1 ∷ 29 ∷ 0 ∷ []) ∷ (61 ∷ 63 ∷ 0 ∷ []) ∷
    (62 ∷ 63 ∷ 0 ∷ []) ∷ (63 ∷ 64 ∷ 14 ∷ 24 ∷ 29 ∷ 5 ∷ 0 ∷ 2 ∷ 83 ∷ []) ∷ (64 ∷ 65 ∷ 7 ∷ 30 ∷ 1 ∷ []) ∷ (65 ∷ 66 ∷ 7 ∷
    31 ∷ 0 ∷ []) ∷ (66 ∷ 67 ∷ 12 ∷ 32 ∷ 31 ∷ 5 ∷ 2 ∷ 92 ∷ []) ∷ (67 ∷ 68 ∷ 19 ∷ 15 ∷ 32 ∷ 0 ∷ []) ∷ (67 ∷ 69 ∷ 19 ∷ 14
    ∷ 32 ∷ 0 ∷ []) ∷ (69 ∷ 70 ∷ 1 ∷ 33 ∷ 2 ∷ []) ∷ (68 ∷ 71 ∷ 1 ∷ 33 ∷ 0 ∷ []) ∷ (70 ∷ 72 ∷ 0 ∷ []) ∷ (71 ∷ 72 ∷ 0 ∷
    []) ∷ (72 ∷ 73 ∷ 14 ∷ 30 ∷ 33 ∷ 5 ∷ 1 ∷ 2 ∷ 90 ∷ []) ∷ (73 ∷ 74 ∷ 7 ∷ 34 ∷ 0 ∷ []) ∷ (74 ∷ 75 ∷ 7 ∷ 35 ∷ 0 ∷ []) ∷
    (75 ∷ 76 ∷ 12 ∷ 36 ∷ 35 ∷ 5 ∷ 2 ∷ 96 ∷ []) ∷ (76 ∷ 77 ∷ 19 ∷ 15 ∷ 36 ∷ 0 ∷ []) ∷ (76 ∷ 78 ∷ 19 ∷ 14 ∷ 36 ∷ 0 ∷ [])
    ∷ (77 ∷ 79 ∷ 7 ∷ 37 ∷ 1 ∷ []) ∷ (79 ∷ 80 ∷ 12 ∷ 38 ∷ 37 ∷ 5 ∷ 2 ∷ 98 ∷ []) ∷ (80 ∷ 81 ∷ 2 ∷ 39 ∷ 38 ∷ []) ∷ (78 ∷
    82 ∷ 1 ∷ 40 ∷ 6 ∷ []) ∷ (82 ∷ 83 ∷ 2 ∷ 39 ∷ 40 ∷ []) ∷ (81 ∷ 84 ∷ 0 ∷ []) ∷ (83 ∷ 84 ∷ 0 ∷ []) ∷ (84 ∷ 85 ∷ 14 ∷
    34 ∷ 39 ∷ 5 ∷ 0 ∷ 2 ∷ 95 ∷ []) ∷ []
unfolding layout_of call_tree cell_count abstract_count type_cells type_abstracts laid items at name working_type right_type values_fold
edges = refl

nodes : (built laid 0).nodes ≡ 86
unfolding layout_of call_tree cell_count abstract_count type_cells type_abstracts laid items at name working_type right_type values_fold
nodes = refl
