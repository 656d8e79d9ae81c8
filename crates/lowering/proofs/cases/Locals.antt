-- The graph of a source, from the trees of its items, equal to the one of another implementation: local objects and
-- their initialisers.
--
--   int r;
--   __task(1) void t(void){int v=3;int w[3]={1,2};struct P{int x;int y;}p={r};unsigned char c;c=300;{int
--     v;v=w[1];r=v+p.y+c;}}
use Rattle.std.proofs.Common.{◌≡◌, refl, true, false, List, [], ◌∷◌, map, Some, None}
use Rattle.concrete_steps.specs.tm_terms.declared.tokens.Longs.TheVariants as Suffix
use Rattle.concrete_steps.specs.tm_terms.declared.types_named.SpecWord.TheVariants as Specs
use Rattle.concrete_steps.specs.tm_terms.declared.types_named.Basic.TheVariants as Basics
use Rattle.concrete_steps.specs.tm_terms.declared.exprs.Binary.TheVariants as Binaries
use Rattle.concrete_steps.specs.tm_terms.declared.exprs.Infix.TheVariants as Infixes
use Rattle.concrete_steps.specs.tm_terms.declared.exprs.Access.TheVariants as Accesses
use Rattle.concrete_steps.specs.tm_terms.ExprTrees.{a_name, an_integer, an_infix, a_subscript, a_member}
use Rattle.concrete_steps.specs.tm_trees.DeclarationTrees.{a_declared_name, a_plain, a_struct, no_specifiers}
use Rattle.concrete_steps.specs.tm_trees.DeclarationTrees.{and_specifier}
use Rattle.concrete_steps.specs.tm_trees.DeclarationTrees.{no_members, and_members, an_expression, a_list, no_values}
use Rattle.concrete_steps.specs.tm_trees.DeclarationTrees.{and_value}
use Rattle.concrete_steps.specs.tm_trees.FileTrees.{a_block, a_value, a_local, a_step, no_parts, and_part, ItemTree}
use Rattle.concrete_steps.specs.tm_trees.FileTrees.{a_declaration}
use Rattle.concrete_steps.specs.tm_trees.FileTrees.{a_task}
use Rattle.concrete_steps.specs.tm_typed.Rules.{working_type, right_type, values_fold}
use Rattle.concrete_steps.specs.tm_typed.Files.{first_file_state, items_in}
use Rattle.concrete_steps.specs.tm_laid.CallTrees.{call_tree}
use Rattle.concrete_steps.specs.tm_laid.TypeCells.{cell_count, abstract_count, type_cells, type_abstracts}
use Rattle.concrete_steps.specs.tm_laid.Layouts.{LaidTree, layout_of}
use Rattle.lowering.specs.Built.{built, graph_of}
use Rattle.lowering.proofs.cases.Rows.{at, name, laid_of, row_of}

items : List ItemTree
unfolding at name
items = (a_declaration (record {
  specifiers = (and_specifier (a_plain (record {
    word = (Specs.Basic Basics.Int);
    place = (at 1 1);
  })) no_specifiers);
  declarators = (record {
    declarator = (a_declared_name ([]) (name 4 1) (at 1
        5) ([]));
    initialiser = None;
  }) ∷ [];
})) ∷ (a_task (an_integer (record {
  value = 1;
  decimal = true;
  unsigned =
      false;
  longs = Suffix.None;
}) (at 2 8)) (name 22 1) (at 2 16) (and_part (a_local (record {
  specifiers =
      (and_specifier (a_plain (record { word = (Specs.Basic Basics.Int); place = (at 2 24) })) no_specifiers);
  declarators = (record {
    declarator = (a_declared_name ([]) (name 34 1) (at 2 28) ([]));
    initialiser = (Some
        (record {
          value = (an_expression (an_integer (record {
            value = 3;
            decimal = true;
            unsigned = false;
            longs =
                Suffix.None;
          }) (at 2 30)));
          place = (at 2 29);
        }));
  }) ∷ [];
})) (and_part (a_local (record {
  specifiers =
      (and_specifier (a_plain (record { word = (Specs.Basic Basics.Int); place = (at 2 32) })) no_specifiers);
  declarators = (record {
    declarator = (a_declared_name ([]) (name 42 1) (at 2 36) ((record {
      value = (Some
          (an_integer (record { value = 3; decimal = true; unsigned = false; longs = Suffix.None }) (at 2 38)));
      place =
          (at 2 37);
    }) ∷ []));
    initialiser = (Some (record {
      value = (a_list (and_value (an_expression (an_integer (record
          { value = 1; decimal = true; unsigned = false; longs = Suffix.None }) (at 2 42))) (and_value (an_expression
          (an_integer (record { value = 2; decimal = true; unsigned = false; longs = Suffix.None }) (at 2 44)))
          no_values)) (at 2 41));
      place = (at 2 40);
    }));
  }) ∷ [];
})) (and_part (a_local (record {
  specifiers =
      (and_specifier (a_struct (Some (record { name = (name 60 1); place = (at 2 54) })) (and_members (and_specifier
      (a_plain (record { word = (Specs.Basic Basics.Int); place = (at 2 56) })) no_specifiers) ((a_declared_name ([])
      (name 66 1) (at 2 60) ([])) ∷ []) (and_members (and_specifier (a_plain (record {
        word = (Specs.Basic
            Basics.Int);
        place = (at 2 62);
      })) no_specifiers) ((a_declared_name ([]) (name 72 1) (at 2 66) ([])) ∷ [])
      no_members)) (at 2 47)) no_specifiers);
  declarators = (record {
    declarator = (a_declared_name ([]) (name 75 1)
        (at 2 69) ([]));
    initialiser = (Some (record {
      value = (a_list (and_value (an_expression (a_name (name 4 1) (at
          2 72))) no_values) (at 2 71));
      place = (at 2 70);
    }));
  }) ∷ [];
})) (and_part (a_local (record {
  specifiers =
      (and_specifier (a_plain (record { word = (Specs.Basic Basics.Unsigned); place = (at 2 75) })) (and_specifier
      (a_plain (record { word = (Specs.Basic Basics.Char); place = (at 2 84) })) no_specifiers));
  declarators =
      (record { declarator = (a_declared_name ([]) (name 95 1) (at 2 89) ([])); initialiser = None }) ∷ [];
}))
    (and_part (a_step (a_value (Some (an_infix (a_name (name 95 1) (at 2 91)) Infixes.Assign (at 2 92) (an_integer
    (record { value = 300; decimal = true; unsigned = false; longs = Suffix.None }) (at 2 93)))))) (and_part (a_step
    (a_block (and_part (a_local (record {
      specifiers = (and_specifier (a_plain (record {
        word = (Specs.Basic
            Basics.Int);
        place = (at 2 98);
      })) no_specifiers);
      declarators = (record {
        declarator = (a_declared_name ([])
            (name 34 1) (at 2 102) ([]));
        initialiser = None;
      }) ∷ [];
    })) (and_part (a_step (a_value (Some (an_infix (a_name
    (name 34 1) (at 2 104)) Infixes.Assign (at 2 105) (a_subscript (a_name (name 42 1) (at 2 106)) (at 2 107)
    (an_integer (record { value = 1; decimal = true; unsigned = false; longs = Suffix.None }) (at 2 108)))))))
    (and_part (a_step (a_value (Some (an_infix (a_name (name 4 1) (at 2 111)) Infixes.Assign (at 2 112) (an_infix
    (an_infix (a_name (name 34 1) (at 2 113)) (Infixes.Binary Binaries.Add) (at 2 114) (a_member (a_name (name 75 1)
    (at 2 115)) Accesses.Dot (at 2 116) (name 72 1) (at 2 117))) (Infixes.Binary Binaries.Add) (at 2 118) (a_name
    (name 95 1) (at 2 119))))))) no_parts))))) no_parts)))))) (at 2 1)) ∷ []

laid : LaidTree
laid = laid_of (items_in first_file_state items) None

edges : map row_of (graph_of laid 0) ≡ (0 ∷ 1 ∷ 16 ∷ 1 ∷ []) ∷ (1 ∷ 2 ∷ 7 ∷ 0 ∷ 1 ∷ []) ∷ (2 ∷ 3 ∷ 1 ∷ 1 ∷ 6 ∷ []) ∷
    (3 ∷ 4 ∷ 14 ∷ 0 ∷ 1 ∷ 5 ∷ 1 ∷ 2 ∷ 29 ∷ []) ∷ (4 ∷ 5 ∷ 16 ∷ 2 ∷ []) ∷ (5 ∷ 6 ∷ 7 ∷ 2 ∷ 2 ∷ []) ∷ (6 ∷ 7 ∷ 8 ∷ 3 ∷
    2 ∷ 0 ∷ []) ∷ (7 ∷ 8 ∷ 1 ∷ 4 ∷ 2 ∷ []) ∷ (8 ∷ 9 ∷ 14 ∷ 3 ∷ 4 ∷ 5 ∷ 2 ∷ 2 ∷ 40 ∷ []) ∷ (9 ∷ 10 ∷ 7 ∷ 5 ∷ 2 ∷ [])
    ∷ (10 ∷ 11 ∷ 8 ∷ 6 ∷ 5 ∷ 1 ∷ []) ∷ (11 ∷ 12 ∷ 1 ∷ 7 ∷ 4 ∷ []) ∷ (12 ∷ 13 ∷ 14 ∷ 6 ∷ 7 ∷ 5 ∷ 2 ∷ 2 ∷ 40 ∷ []) ∷
    (13 ∷ 14 ∷ 7 ∷ 8 ∷ 2 ∷ []) ∷ (14 ∷ 15 ∷ 8 ∷ 9 ∷ 8 ∷ 2 ∷ []) ∷ (15 ∷ 16 ∷ 1 ∷ 10 ∷ 0 ∷ []) ∷ (16 ∷ 17 ∷ 14 ∷ 9 ∷
    10 ∷ 5 ∷ 2 ∷ 2 ∷ 40 ∷ []) ∷ (17 ∷ 18 ∷ 16 ∷ 3 ∷ []) ∷ (18 ∷ 19 ∷ 7 ∷ 11 ∷ 3 ∷ []) ∷ (19 ∷ 20 ∷ 8 ∷ 12 ∷ 11 ∷ 0 ∷
    []) ∷ (20 ∷ 21 ∷ 7 ∷ 13 ∷ 0 ∷ []) ∷ (21 ∷ 22 ∷ 12 ∷ 14 ∷ 13 ∷ 5 ∷ 2 ∷ 72 ∷ []) ∷ (22 ∷ 23 ∷ 14 ∷ 12 ∷ 14 ∷ 5 ∷ 3
    ∷ 2 ∷ 70 ∷ []) ∷ (23 ∷ 24 ∷ 7 ∷ 15 ∷ 3 ∷ []) ∷ (24 ∷ 25 ∷ 8 ∷ 16 ∷ 15 ∷ 1 ∷ []) ∷ (25 ∷ 26 ∷ 1 ∷ 17 ∷ 0 ∷ []) ∷
    (26 ∷ 27 ∷ 14 ∷ 16 ∷ 17 ∷ 5 ∷ 3 ∷ 2 ∷ 70 ∷ []) ∷ (27 ∷ 28 ∷ 16 ∷ 4 ∷ []) ∷ (28 ∷ 29 ∷ 7 ∷ 18 ∷ 4 ∷ []) ∷ (29 ∷
    30 ∷ 1 ∷ 19 ∷ 600 ∷ []) ∷ (30 ∷ 31 ∷ 6 ∷ 20 ∷ 2 ∷ 19 ∷ []) ∷ (31 ∷ 32 ∷ 14 ∷ 18 ∷ 20 ∷ 2 ∷ 4 ∷ 2 ∷ 92 ∷ []) ∷
    (32 ∷ 33 ∷ 16 ∷ 5 ∷ []) ∷ (33 ∷ 34 ∷ 7 ∷ 21 ∷ 5 ∷ []) ∷ (34 ∷ 35 ∷ 7 ∷ 22 ∷ 2 ∷ []) ∷ (35 ∷ 36 ∷ 1 ∷ 23 ∷ 2 ∷
    []) ∷ (36 ∷ 37 ∷ 9 ∷ 24 ∷ 22 ∷ 3 ∷ 1 ∷ 23 ∷ 2 ∷ 107 ∷ []) ∷ (37 ∷ 38 ∷ 12 ∷ 25 ∷ 24 ∷ 5 ∷ 2 ∷ 107 ∷ []) ∷ (38 ∷
    39 ∷ 14 ∷ 21 ∷ 25 ∷ 5 ∷ 5 ∷ 2 ∷ 105 ∷ []) ∷ (39 ∷ 40 ∷ 7 ∷ 26 ∷ 0 ∷ []) ∷ (40 ∷ 41 ∷ 7 ∷ 27 ∷ 5 ∷ []) ∷ (41 ∷ 42
    ∷ 12 ∷ 28 ∷ 27 ∷ 5 ∷ 2 ∷ 113 ∷ []) ∷ (42 ∷ 43 ∷ 7 ∷ 29 ∷ 3 ∷ []) ∷ (43 ∷ 44 ∷ 8 ∷ 30 ∷ 29 ∷ 1 ∷ []) ∷ (44 ∷ 45 ∷
    12 ∷ 31 ∷ 30 ∷ 5 ∷ 2 ∷ 116 ∷ []) ∷ (45 ∷ 46 ∷ 4 ∷ 32 ∷ 0 ∷ 5 ∷ 28 ∷ 31 ∷ 2 ∷ 114 ∷ []) ∷ (46 ∷ 47 ∷ 7 ∷ 33 ∷ 4 ∷
    []) ∷ (47 ∷ 48 ∷ 12 ∷ 34 ∷ 33 ∷ 2 ∷ 2 ∷ 119 ∷ []) ∷ (48 ∷ 49 ∷ 4 ∷ 35 ∷ 0 ∷ 5 ∷ 32 ∷ 34 ∷ 2 ∷ 118 ∷ []) ∷ (49 ∷
    50 ∷ 14 ∷ 26 ∷ 35 ∷ 5 ∷ 0 ∷ 2 ∷ 112 ∷ []) ∷ []
unfolding layout_of call_tree cell_count abstract_count type_cells type_abstracts laid items at name working_type right_type values_fold
edges = refl

nodes : (built laid 0).nodes ≡ 51
unfolding layout_of call_tree cell_count abstract_count type_cells type_abstracts laid items at name working_type right_type values_fold
nodes = refl
