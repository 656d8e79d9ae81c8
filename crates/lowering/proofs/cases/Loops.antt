-- The graph of a source, from the trees of its items, equal to the one of another implementation: loops with `break`
-- and `continue`.
--
--   int i;int s;
--   __task(1) void t(void){for(i=0;i<10;i++){if(i==3)continue;if(i==7)break;s+=i;}while(s>0){s--;if(s==5)continue;}
--   do{s++;if(s==2)continue;if(s==9)break;}while(s<20);}
--
-- The last two lines are one in the source.
use Rattle.std.proofs.Common.{◌≡◌, refl, true, false, List, [], ◌∷◌, map, Some, None}
use Rattle.concrete_steps.specs.tm_terms.declared.tokens.Longs.TheVariants as Suffix
use Rattle.concrete_steps.specs.tm_terms.declared.types_named.SpecWord.TheVariants as Specs
use Rattle.concrete_steps.specs.tm_terms.declared.types_named.Basic.TheVariants as Basics
use Rattle.concrete_steps.specs.tm_terms.declared.exprs.Binary.TheVariants as Binaries
use Rattle.concrete_steps.specs.tm_terms.declared.exprs.Infix.TheVariants as Infixes
use Rattle.concrete_steps.specs.tm_terms.declared.exprs.Postfix.TheVariants as Postfixes
use Rattle.concrete_steps.specs.tm_terms.ExprTrees.{a_name, an_integer, an_infix, a_postfix}
use Rattle.concrete_steps.specs.tm_trees.DeclarationTrees.{a_declared_name, a_plain, no_specifiers, and_specifier}
use Rattle.concrete_steps.specs.tm_trees.FileTrees.{by_expression, a_block, a_value, an_if, a_while, a_do, a_for}
use Rattle.concrete_steps.specs.tm_trees.FileTrees.{a_break, a_continue}
use Rattle.concrete_steps.specs.tm_trees.FileTrees.{a_step, no_parts, and_part, ItemTree, a_declaration, a_task}
use Rattle.concrete_steps.specs.tm_typed.Rules.{working_type, right_type, values_fold}
use Rattle.concrete_steps.specs.tm_typed.Files.{first_file_state, items_in}
use Rattle.concrete_steps.specs.tm_laid.CallTrees.{call_tree}
use Rattle.concrete_steps.specs.tm_laid.TypeCells.{cell_count, abstract_count, type_cells, type_abstracts}
use Rattle.concrete_steps.specs.tm_laid.Layouts.{LaidTree, layout_of}
use Rattle.lowering.specs.Built.{built, graph_of}
use Rattle.lowering.proofs.cases.Rows.{at, name, laid_of, row_of}

items : List ItemTree
unfolding at name
items = (a_declaration (record {
  specifiers = (and_specifier (a_plain (record {
    word = (Specs.Basic Basics.Int);
    place = (at 1 1);
  })) no_specifiers);
  declarators = (record {
    declarator = (a_declared_name ([]) (name 4 1) (at 1
        5) ([]));
    initialiser = None;
  }) ∷ [];
})) ∷ (a_declaration (record {
  specifiers = (and_specifier (a_plain (record
      { word = (Specs.Basic Basics.Int); place = (at 1 7) })) no_specifiers);
  declarators = (record {
    declarator =
        (a_declared_name ([]) (name 10 1) (at 1 11) ([]));
    initialiser = None;
  }) ∷ [];
})) ∷ (a_task (an_integer (record
    { value = 1; decimal = true; unsigned = false; longs = Suffix.None }) (at 2 8)) (name 28 1) (at 2 16) (and_part
    (a_step (a_for (by_expression (Some (an_infix (a_name (name 4 1) (at 2 28)) Infixes.Assign (at 2 29) (an_integer
    (record { value = 0; decimal = false; unsigned = false; longs = Suffix.None }) (at 2 30))))) (Some (an_infix
    (a_name (name 4 1) (at 2 32)) (Infixes.Binary Binaries.Less) (at 2 33) (an_integer (record {
      value = 10;
      decimal
          = true;
      unsigned = false;
      longs = Suffix.None;
    }) (at 2 34)))) (Some (a_postfix (a_name (name 4 1) (at 2 37))
    Postfixes.Increment (at 2 38))) (a_block (and_part (a_step (an_if (an_infix (a_name (name 4 1) (at 2 45))
    (Infixes.Binary Binaries.Equal) (at 2 46) (an_integer (record {
      value = 3;
      decimal = true;
      unsigned = false;
      longs = Suffix.None;
    }) (at 2 48))) (a_continue (at 2 50)))) (and_part (a_step (an_if (an_infix (a_name (name 4
    1) (at 2 62)) (Infixes.Binary Binaries.Equal) (at 2 63) (an_integer (record {
      value = 7;
      decimal = true;
      unsigned = false;
      longs = Suffix.None;
    }) (at 2 65))) (a_break (at 2 67)))) (and_part (a_step (a_value (Some
    (an_infix (a_name (name 10 1) (at 2 73)) (Infixes.AssignBy Binaries.Add) (at 2 74) (a_name (name 4 1) (at 2
    76)))))) no_parts)))))) (and_part (a_step (a_while (an_infix (a_name (name 10 1) (at 2 85)) (Infixes.Binary
    Binaries.Greater) (at 2 86) (an_integer (record {
      value = 0;
      decimal = false;
      unsigned = false;
      longs =
          Suffix.None;
    }) (at 2 87))) (a_block (and_part (a_step (a_value (Some (a_postfix (a_name (name 10 1) (at 2 90))
    Postfixes.Decrement (at 2 91))))) (and_part (a_step (an_if (an_infix (a_name (name 10 1) (at 2 97))
    (Infixes.Binary Binaries.Equal) (at 2 98) (an_integer (record {
      value = 5;
      decimal = true;
      unsigned = false;
      longs = Suffix.None;
    }) (at 2 100))) (a_continue (at 2 102)))) no_parts))))) (and_part (a_step (a_do (a_block
    (and_part (a_step (a_value (Some (a_postfix (a_name (name 10 1) (at 2 115)) Postfixes.Increment (at 2 116)))))
    (and_part (a_step (an_if (an_infix (a_name (name 10 1) (at 2 122)) (Infixes.Binary Binaries.Equal) (at 2 123)
    (an_integer (record { value = 2; decimal = true; unsigned = false; longs = Suffix.None }) (at 2 125)))
    (a_continue (at 2 127)))) (and_part (a_step (an_if (an_infix (a_name (name 10 1) (at 2 139)) (Infixes.Binary
    Binaries.Equal) (at 2 140) (an_integer (record {
      value = 9;
      decimal = true;
      unsigned = false;
      longs =
          Suffix.None;
    }) (at 2 142))) (a_break (at 2 144)))) no_parts)))) (an_infix (a_name (name 10 1) (at 2 157))
    (Infixes.Binary Binaries.Less) (at 2 158) (an_integer (record {
      value = 20;
      decimal = true;
      unsigned = false;
      longs = Suffix.None;
    }) (at 2 159))))) no_parts))) (at 2 1)) ∷ []

laid : LaidTree
laid = laid_of (items_in first_file_state items) None

edges : map row_of (graph_of laid 0) ≡ (0 ∷ 1 ∷ 7 ∷ 0 ∷ 0 ∷ []) ∷ (1 ∷ 2 ∷ 1 ∷ 1 ∷ 0 ∷ []) ∷ (2 ∷ 3 ∷ 14 ∷ 0 ∷ 1 ∷ 5
    ∷ 0 ∷ 2 ∷ 29 ∷ []) ∷ (3 ∷ 4 ∷ 0 ∷ []) ∷ (4 ∷ 5 ∷ 7 ∷ 2 ∷ 0 ∷ []) ∷ (5 ∷ 6 ∷ 12 ∷ 3 ∷ 2 ∷ 5 ∷ 2 ∷ 32 ∷ []) ∷ (6 ∷
    7 ∷ 1 ∷ 4 ∷ 20 ∷ []) ∷ (7 ∷ 8 ∷ 18 ∷ 10 ∷ 3 ∷ 4 ∷ []) ∷ (7 ∷ 9 ∷ 18 ∷ 13 ∷ 3 ∷ 4 ∷ []) ∷ (8 ∷ 10 ∷ 7 ∷ 5 ∷ 0 ∷
    []) ∷ (10 ∷ 11 ∷ 12 ∷ 6 ∷ 5 ∷ 5 ∷ 2 ∷ 45 ∷ []) ∷ (11 ∷ 12 ∷ 1 ∷ 7 ∷ 6 ∷ []) ∷ (12 ∷ 13 ∷ 18 ∷ 14 ∷ 6 ∷ 7 ∷ []) ∷
    (12 ∷ 14 ∷ 18 ∷ 15 ∷ 6 ∷ 7 ∷ []) ∷ (15 ∷ 16 ∷ 0 ∷ []) ∷ (14 ∷ 16 ∷ 0 ∷ []) ∷ (16 ∷ 17 ∷ 7 ∷ 8 ∷ 0 ∷ []) ∷ (17 ∷
    18 ∷ 12 ∷ 9 ∷ 8 ∷ 5 ∷ 2 ∷ 62 ∷ []) ∷ (18 ∷ 19 ∷ 1 ∷ 10 ∷ 14 ∷ []) ∷ (19 ∷ 20 ∷ 18 ∷ 14 ∷ 9 ∷ 10 ∷ []) ∷ (19 ∷ 21
    ∷ 18 ∷ 15 ∷ 9 ∷ 10 ∷ []) ∷ (22 ∷ 23 ∷ 0 ∷ []) ∷ (21 ∷ 23 ∷ 0 ∷ []) ∷ (23 ∷ 24 ∷ 7 ∷ 11 ∷ 1 ∷ []) ∷ (24 ∷ 25 ∷ 12
    ∷ 12 ∷ 11 ∷ 5 ∷ 2 ∷ 73 ∷ []) ∷ (25 ∷ 26 ∷ 7 ∷ 13 ∷ 0 ∷ []) ∷ (26 ∷ 27 ∷ 12 ∷ 14 ∷ 13 ∷ 5 ∷ 2 ∷ 76 ∷ []) ∷ (27 ∷
    28 ∷ 4 ∷ 15 ∷ 0 ∷ 5 ∷ 12 ∷ 14 ∷ 2 ∷ 74 ∷ []) ∷ (28 ∷ 29 ∷ 14 ∷ 11 ∷ 15 ∷ 5 ∷ 1 ∷ 2 ∷ 74 ∷ []) ∷ (13 ∷ 30 ∷ 0 ∷
    []) ∷ (29 ∷ 30 ∷ 0 ∷ []) ∷ (30 ∷ 31 ∷ 7 ∷ 16 ∷ 0 ∷ []) ∷ (31 ∷ 32 ∷ 12 ∷ 17 ∷ 16 ∷ 5 ∷ 2 ∷ 37 ∷ []) ∷ (32 ∷ 33 ∷
    1 ∷ 18 ∷ 2 ∷ []) ∷ (33 ∷ 34 ∷ 4 ∷ 19 ∷ 0 ∷ 5 ∷ 17 ∷ 18 ∷ 2 ∷ 38 ∷ []) ∷ (34 ∷ 35 ∷ 14 ∷ 16 ∷ 19 ∷ 5 ∷ 0 ∷ 2 ∷ 38
    ∷ []) ∷ (35 ∷ 4 ∷ 0 ∷ []) ∷ (9 ∷ 36 ∷ 0 ∷ []) ∷ (20 ∷ 36 ∷ 0 ∷ []) ∷ (36 ∷ 37 ∷ 0 ∷ []) ∷ (37 ∷ 38 ∷ 7 ∷ 20 ∷ 1
    ∷ []) ∷ (38 ∷ 39 ∷ 12 ∷ 21 ∷ 20 ∷ 5 ∷ 2 ∷ 85 ∷ []) ∷ (39 ∷ 40 ∷ 1 ∷ 22 ∷ 0 ∷ []) ∷ (40 ∷ 41 ∷ 18 ∷ 12 ∷ 21 ∷ 22
    ∷ []) ∷ (40 ∷ 42 ∷ 18 ∷ 11 ∷ 21 ∷ 22 ∷ []) ∷ (41 ∷ 43 ∷ 7 ∷ 23 ∷ 1 ∷ []) ∷ (43 ∷ 44 ∷ 12 ∷ 24 ∷ 23 ∷ 5 ∷ 2 ∷ 90
    ∷ []) ∷ (44 ∷ 45 ∷ 1 ∷ 25 ∷ 2 ∷ []) ∷ (45 ∷ 46 ∷ 4 ∷ 26 ∷ 1 ∷ 5 ∷ 24 ∷ 25 ∷ 2 ∷ 91 ∷ []) ∷ (46 ∷ 47 ∷ 14 ∷ 23 ∷
    26 ∷ 5 ∷ 1 ∷ 2 ∷ 91 ∷ []) ∷ (47 ∷ 48 ∷ 7 ∷ 27 ∷ 1 ∷ []) ∷ (48 ∷ 49 ∷ 12 ∷ 28 ∷ 27 ∷ 5 ∷ 2 ∷ 97 ∷ []) ∷ (49 ∷ 50
    ∷ 1 ∷ 29 ∷ 10 ∷ []) ∷ (50 ∷ 51 ∷ 18 ∷ 14 ∷ 28 ∷ 29 ∷ []) ∷ (50 ∷ 52 ∷ 18 ∷ 15 ∷ 28 ∷ 29 ∷ []) ∷ (51 ∷ 37 ∷ 0 ∷
    []) ∷ (53 ∷ 54 ∷ 0 ∷ []) ∷ (52 ∷ 54 ∷ 0 ∷ []) ∷ (54 ∷ 37 ∷ 0 ∷ []) ∷ (42 ∷ 55 ∷ 0 ∷ []) ∷ (55 ∷ 56 ∷ 0 ∷ []) ∷
    (56 ∷ 57 ∷ 7 ∷ 30 ∷ 1 ∷ []) ∷ (57 ∷ 58 ∷ 12 ∷ 31 ∷ 30 ∷ 5 ∷ 2 ∷ 115 ∷ []) ∷ (58 ∷ 59 ∷ 1 ∷ 32 ∷ 2 ∷ []) ∷ (59 ∷
    60 ∷ 4 ∷ 33 ∷ 0 ∷ 5 ∷ 31 ∷ 32 ∷ 2 ∷ 116 ∷ []) ∷ (60 ∷ 61 ∷ 14 ∷ 30 ∷ 33 ∷ 5 ∷ 1 ∷ 2 ∷ 116 ∷ []) ∷ (61 ∷ 62 ∷ 7 ∷
    34 ∷ 1 ∷ []) ∷ (62 ∷ 63 ∷ 12 ∷ 35 ∷ 34 ∷ 5 ∷ 2 ∷ 122 ∷ []) ∷ (63 ∷ 64 ∷ 1 ∷ 36 ∷ 4 ∷ []) ∷ (64 ∷ 65 ∷ 18 ∷ 14 ∷
    35 ∷ 36 ∷ []) ∷ (64 ∷ 66 ∷ 18 ∷ 15 ∷ 35 ∷ 36 ∷ []) ∷ (67 ∷ 68 ∷ 0 ∷ []) ∷ (66 ∷ 68 ∷ 0 ∷ []) ∷ (68 ∷ 69 ∷ 7 ∷ 37
    ∷ 1 ∷ []) ∷ (69 ∷ 70 ∷ 12 ∷ 38 ∷ 37 ∷ 5 ∷ 2 ∷ 139 ∷ []) ∷ (70 ∷ 71 ∷ 1 ∷ 39 ∷ 18 ∷ []) ∷ (71 ∷ 72 ∷ 18 ∷ 14 ∷ 38
    ∷ 39 ∷ []) ∷ (71 ∷ 73 ∷ 18 ∷ 15 ∷ 38 ∷ 39 ∷ []) ∷ (74 ∷ 75 ∷ 0 ∷ []) ∷ (73 ∷ 75 ∷ 0 ∷ []) ∷ (65 ∷ 76 ∷ 0 ∷ []) ∷
    (75 ∷ 76 ∷ 0 ∷ []) ∷ (76 ∷ 77 ∷ 7 ∷ 40 ∷ 1 ∷ []) ∷ (77 ∷ 78 ∷ 12 ∷ 41 ∷ 40 ∷ 5 ∷ 2 ∷ 157 ∷ []) ∷ (78 ∷ 79 ∷ 1 ∷
    42 ∷ 40 ∷ []) ∷ (79 ∷ 80 ∷ 18 ∷ 10 ∷ 41 ∷ 42 ∷ []) ∷ (79 ∷ 81 ∷ 18 ∷ 13 ∷ 41 ∷ 42 ∷ []) ∷ (80 ∷ 56 ∷ 0 ∷ []) ∷
    (72 ∷ 82 ∷ 0 ∷ []) ∷ (81 ∷ 82 ∷ 0 ∷ []) ∷ []
unfolding layout_of call_tree cell_count abstract_count type_cells type_abstracts laid items at name working_type right_type values_fold
edges = refl

nodes : (built laid 0).nodes ≡ 83
unfolding layout_of call_tree cell_count abstract_count type_cells type_abstracts laid items at name working_type right_type values_fold
nodes = refl
