-- The graph of a source, from the trees of its items, equal to the one of another implementation: operators and
-- conversions.
--
--   int x;unsigned u;long long l;int r;
--   __task(1) void t(void){r=-x;r=~x;r=x%3;r=x<<2;u=u>>x;l=l*u;r=(char)x;r=x<u;r=x!=3&&(x,u);r=+x;x<<=u;l/=x;}
use Rattle.std.proofs.Common.{◌≡◌, refl, true, false, List, [], ◌∷◌, map, Some, None}
use Rattle.concrete_steps.specs.tm_terms.declared.tokens.Longs.TheVariants as Suffix
use Rattle.concrete_steps.specs.tm_terms.declared.types_named.SpecWord.TheVariants as Specs
use Rattle.concrete_steps.specs.tm_terms.declared.types_named.Basic.TheVariants as Basics
use Rattle.concrete_steps.specs.tm_terms.declared.exprs.Binary.TheVariants as Binaries
use Rattle.concrete_steps.specs.tm_terms.declared.exprs.Infix.TheVariants as Infixes
use Rattle.concrete_steps.specs.tm_terms.declared.exprs.Prefix.TheVariants as Prefixes
use Rattle.concrete_steps.specs.tm_terms.ExprTrees.{a_name, an_integer, in_parentheses, a_prefix, a_cast, an_infix}
use Rattle.concrete_steps.specs.tm_trees.DeclarationTrees.{a_declared_name, a_plain, no_specifiers, and_specifier}
use Rattle.concrete_steps.specs.tm_trees.FileTrees.{a_value, a_step, no_parts, and_part, ItemTree, a_declaration}
use Rattle.concrete_steps.specs.tm_trees.FileTrees.{a_task}
use Rattle.concrete_steps.specs.tm_typed.Rules.{working_type, right_type, values_fold}
use Rattle.concrete_steps.specs.tm_typed.Files.{first_file_state, items_in}
use Rattle.concrete_steps.specs.tm_laid.CallTrees.{call_tree}
use Rattle.concrete_steps.specs.tm_laid.TypeCells.{cell_count, abstract_count, type_cells, type_abstracts}
use Rattle.concrete_steps.specs.tm_laid.Layouts.{LaidTree, layout_of}
use Rattle.lowering.specs.Built.{built, graph_of}
use Rattle.lowering.proofs.cases.Rows.{at, name, laid_of, row_of}

items : List ItemTree
unfolding at name
items = (a_declaration (record {
  specifiers = (and_specifier (a_plain (record {
    word = (Specs.Basic Basics.Int);
    place = (at 1 1);
  })) no_specifiers);
  declarators = (record {
    declarator = (a_declared_name ([]) (name 4 1) (at 1
        5) ([]));
    initialiser = None;
  }) ∷ [];
})) ∷ (a_declaration (record {
  specifiers = (and_specifier (a_plain (record
      { word = (Specs.Basic Basics.Unsigned); place = (at 1 7) })) no_specifiers);
  declarators = (record {
    declarator
        = (a_declared_name ([]) (name 15 1) (at 1 16) ([]));
    initialiser = None;
  }) ∷ [];
})) ∷ (a_declaration (record {
  specifiers = (and_specifier (a_plain (record { word = (Specs.Basic Basics.Long); place = (at 1 18) }))
      (and_specifier (a_plain (record { word = (Specs.Basic Basics.Long); place = (at 1 23) })) no_specifiers));
  declarators = (record { declarator = (a_declared_name ([]) (name 27 1) (at 1 28) ([])); initialiser = None }) ∷
      [];
})) ∷ (a_declaration (record {
  specifiers = (and_specifier (a_plain (record {
    word = (Specs.Basic
        Basics.Int);
    place = (at 1 30);
  })) no_specifiers);
  declarators = (record {
    declarator = (a_declared_name ([])
        (name 33 1) (at 1 34) ([]));
    initialiser = None;
  }) ∷ [];
})) ∷ (a_task (an_integer (record {
  value = 1;
  decimal =
      true;
  unsigned = false;
  longs = Suffix.None;
}) (at 2 8)) (name 51 1) (at 2 16) (and_part (a_step (a_value (Some
    (an_infix (a_name (name 33 1) (at 2 24)) Infixes.Assign (at 2 25) (a_prefix Prefixes.Minus (a_name (name 4 1)
    (at 2 27)) (at 2 26)))))) (and_part (a_step (a_value (Some (an_infix (a_name (name 33 1) (at 2 29))
    Infixes.Assign (at 2 30) (a_prefix Prefixes.Complement (a_name (name 4 1) (at 2 32)) (at 2 31)))))) (and_part
    (a_step (a_value (Some (an_infix (a_name (name 33 1) (at 2 34)) Infixes.Assign (at 2 35) (an_infix (a_name (name
    4 1) (at 2 36)) (Infixes.Binary Binaries.Remainder) (at 2 37) (an_integer (record {
      value = 3;
      decimal = true;
      unsigned = false;
      longs = Suffix.None;
    }) (at 2 38))))))) (and_part (a_step (a_value (Some (an_infix (a_name
    (name 33 1) (at 2 40)) Infixes.Assign (at 2 41) (an_infix (a_name (name 4 1) (at 2 42)) (Infixes.Binary
    Binaries.ShiftLeft) (at 2 43) (an_integer (record {
      value = 2;
      decimal = true;
      unsigned = false;
      longs =
          Suffix.None;
    }) (at 2 45))))))) (and_part (a_step (a_value (Some (an_infix (a_name (name 15 1) (at 2 47))
    Infixes.Assign (at 2 48) (an_infix (a_name (name 15 1) (at 2 49)) (Infixes.Binary Binaries.ShiftRight) (at 2 50)
    (a_name (name 4 1) (at 2 52))))))) (and_part (a_step (a_value (Some (an_infix (a_name (name 27 1) (at 2 54))
    Infixes.Assign (at 2 55) (an_infix (a_name (name 27 1) (at 2 56)) (Infixes.Binary Binaries.Multiply) (at 2 57)
    (a_name (name 15 1) (at 2 58))))))) (and_part (a_step (a_value (Some (an_infix (a_name (name 33 1) (at 2 60))
    Infixes.Assign (at 2 61) (a_cast (record {
      specs = (record {
        word = (Specs.Basic Basics.Char);
        place = (at 2 63);
      }) ∷ [];
      pointers = [];
    }) (a_name (name 4 1) (at 2 68)) (at 2 62)))))) (and_part (a_step (a_value (Some
    (an_infix (a_name (name 33 1) (at 2 70)) Infixes.Assign (at 2 71) (an_infix (a_name (name 4 1) (at 2 72))
    (Infixes.Binary Binaries.Less) (at 2 73) (a_name (name 15 1) (at 2 74))))))) (and_part (a_step (a_value (Some
    (an_infix (a_name (name 33 1) (at 2 76)) Infixes.Assign (at 2 77) (an_infix (an_infix (a_name (name 4 1) (at 2
    78)) (Infixes.Binary Binaries.NotEqual) (at 2 79) (an_integer (record {
      value = 3;
      decimal = true;
      unsigned =
          false;
      longs = Suffix.None;
    }) (at 2 81))) (Infixes.Binary Binaries.And) (at 2 82) (in_parentheses (an_infix
    (a_name (name 4 1) (at 2 85)) Infixes.Comma (at 2 86) (a_name (name 15 1) (at 2 87))))))))) (and_part (a_step
    (a_value (Some (an_infix (a_name (name 33 1) (at 2 90)) Infixes.Assign (at 2 91) (a_prefix Prefixes.Plus (a_name
    (name 4 1) (at 2 93)) (at 2 92)))))) (and_part (a_step (a_value (Some (an_infix (a_name (name 4 1) (at 2 95))
    (Infixes.AssignBy Binaries.ShiftLeft) (at 2 96) (a_name (name 15 1) (at 2 99)))))) (and_part (a_step (a_value
    (Some (an_infix (a_name (name 27 1) (at 2 101)) (Infixes.AssignBy Binaries.Divide) (at 2 102) (a_name (name 4 1)
    (at 2 104)))))) no_parts)))))))))))) (at 2 1)) ∷ []

laid : LaidTree
laid = laid_of (items_in first_file_state items) None

edges : map row_of (graph_of laid 0) ≡ (0 ∷ 1 ∷ 7 ∷ 0 ∷ 3 ∷ []) ∷ (1 ∷ 2 ∷ 7 ∷ 1 ∷ 0 ∷ []) ∷ (2 ∷ 3 ∷ 12 ∷ 2 ∷ 1 ∷ 5
    ∷ 2 ∷ 27 ∷ []) ∷ (3 ∷ 4 ∷ 3 ∷ 3 ∷ 0 ∷ 5 ∷ 2 ∷ 2 ∷ 26 ∷ []) ∷ (4 ∷ 5 ∷ 14 ∷ 0 ∷ 3 ∷ 5 ∷ 3 ∷ 2 ∷ 25 ∷ []) ∷ (5 ∷ 6
    ∷ 7 ∷ 4 ∷ 3 ∷ []) ∷ (6 ∷ 7 ∷ 7 ∷ 5 ∷ 0 ∷ []) ∷ (7 ∷ 8 ∷ 12 ∷ 6 ∷ 5 ∷ 5 ∷ 2 ∷ 32 ∷ []) ∷ (8 ∷ 9 ∷ 3 ∷ 7 ∷ 1 ∷ 5 ∷
    6 ∷ 2 ∷ 31 ∷ []) ∷ (9 ∷ 10 ∷ 14 ∷ 4 ∷ 7 ∷ 5 ∷ 3 ∷ 2 ∷ 30 ∷ []) ∷ (10 ∷ 11 ∷ 7 ∷ 8 ∷ 3 ∷ []) ∷ (11 ∷ 12 ∷ 7 ∷ 9 ∷
    0 ∷ []) ∷ (12 ∷ 13 ∷ 12 ∷ 10 ∷ 9 ∷ 5 ∷ 2 ∷ 36 ∷ []) ∷ (13 ∷ 14 ∷ 1 ∷ 11 ∷ 6 ∷ []) ∷ (14 ∷ 15 ∷ 4 ∷ 12 ∷ 4 ∷ 5 ∷
    10 ∷ 11 ∷ 2 ∷ 37 ∷ []) ∷ (15 ∷ 16 ∷ 14 ∷ 8 ∷ 12 ∷ 5 ∷ 3 ∷ 2 ∷ 35 ∷ []) ∷ (16 ∷ 17 ∷ 7 ∷ 13 ∷ 3 ∷ []) ∷ (17 ∷ 18
    ∷ 7 ∷ 14 ∷ 0 ∷ []) ∷ (18 ∷ 19 ∷ 12 ∷ 15 ∷ 14 ∷ 5 ∷ 2 ∷ 42 ∷ []) ∷ (19 ∷ 20 ∷ 1 ∷ 16 ∷ 4 ∷ []) ∷ (20 ∷ 21 ∷ 4 ∷
    17 ∷ 5 ∷ 5 ∷ 15 ∷ 16 ∷ 2 ∷ 43 ∷ []) ∷ (21 ∷ 22 ∷ 14 ∷ 13 ∷ 17 ∷ 5 ∷ 3 ∷ 2 ∷ 41 ∷ []) ∷ (22 ∷ 23 ∷ 7 ∷ 18 ∷ 1 ∷
    []) ∷ (23 ∷ 24 ∷ 7 ∷ 19 ∷ 1 ∷ []) ∷ (24 ∷ 25 ∷ 12 ∷ 20 ∷ 19 ∷ 6 ∷ 2 ∷ 49 ∷ []) ∷ (25 ∷ 26 ∷ 7 ∷ 21 ∷ 0 ∷ []) ∷
    (26 ∷ 27 ∷ 12 ∷ 22 ∷ 21 ∷ 5 ∷ 2 ∷ 52 ∷ []) ∷ (27 ∷ 28 ∷ 4 ∷ 23 ∷ 6 ∷ 6 ∷ 20 ∷ 22 ∷ 2 ∷ 50 ∷ []) ∷ (28 ∷ 29 ∷ 14
    ∷ 18 ∷ 23 ∷ 6 ∷ 1 ∷ 2 ∷ 48 ∷ []) ∷ (29 ∷ 30 ∷ 7 ∷ 24 ∷ 2 ∷ []) ∷ (30 ∷ 31 ∷ 7 ∷ 25 ∷ 2 ∷ []) ∷ (31 ∷ 32 ∷ 12 ∷
    26 ∷ 25 ∷ 9 ∷ 2 ∷ 56 ∷ []) ∷ (32 ∷ 33 ∷ 7 ∷ 27 ∷ 1 ∷ []) ∷ (33 ∷ 34 ∷ 12 ∷ 28 ∷ 27 ∷ 6 ∷ 2 ∷ 58 ∷ []) ∷ (34 ∷ 35
    ∷ 4 ∷ 29 ∷ 2 ∷ 9 ∷ 26 ∷ 28 ∷ 2 ∷ 57 ∷ []) ∷ (35 ∷ 36 ∷ 14 ∷ 24 ∷ 29 ∷ 9 ∷ 2 ∷ 2 ∷ 55 ∷ []) ∷ (36 ∷ 37 ∷ 7 ∷ 30 ∷
    3 ∷ []) ∷ (37 ∷ 38 ∷ 7 ∷ 31 ∷ 0 ∷ []) ∷ (38 ∷ 39 ∷ 12 ∷ 32 ∷ 31 ∷ 5 ∷ 2 ∷ 68 ∷ []) ∷ (39 ∷ 40 ∷ 6 ∷ 33 ∷ 1 ∷ 32
    ∷ []) ∷ (40 ∷ 41 ∷ 14 ∷ 30 ∷ 33 ∷ 5 ∷ 3 ∷ 2 ∷ 61 ∷ []) ∷ (41 ∷ 42 ∷ 7 ∷ 34 ∷ 3 ∷ []) ∷ (42 ∷ 43 ∷ 7 ∷ 35 ∷ 0 ∷
    []) ∷ (43 ∷ 44 ∷ 12 ∷ 36 ∷ 35 ∷ 5 ∷ 2 ∷ 72 ∷ []) ∷ (44 ∷ 45 ∷ 7 ∷ 37 ∷ 1 ∷ []) ∷ (45 ∷ 46 ∷ 12 ∷ 38 ∷ 37 ∷ 6 ∷ 2
    ∷ 74 ∷ []) ∷ (46 ∷ 47 ∷ 6 ∷ 39 ∷ 6 ∷ 36 ∷ []) ∷ (47 ∷ 48 ∷ 4 ∷ 40 ∷ 10 ∷ 6 ∷ 39 ∷ 38 ∷ 2 ∷ 73 ∷ []) ∷ (48 ∷ 49 ∷
    14 ∷ 34 ∷ 40 ∷ 5 ∷ 3 ∷ 2 ∷ 71 ∷ []) ∷ (49 ∷ 50 ∷ 7 ∷ 41 ∷ 3 ∷ []) ∷ (50 ∷ 51 ∷ 7 ∷ 42 ∷ 0 ∷ []) ∷ (51 ∷ 52 ∷ 12
    ∷ 43 ∷ 42 ∷ 5 ∷ 2 ∷ 78 ∷ []) ∷ (52 ∷ 53 ∷ 1 ∷ 44 ∷ 6 ∷ []) ∷ (53 ∷ 54 ∷ 18 ∷ 15 ∷ 43 ∷ 44 ∷ []) ∷ (53 ∷ 55 ∷ 18
    ∷ 14 ∷ 43 ∷ 44 ∷ []) ∷ (54 ∷ 56 ∷ 7 ∷ 45 ∷ 0 ∷ []) ∷ (56 ∷ 57 ∷ 12 ∷ 46 ∷ 45 ∷ 5 ∷ 2 ∷ 85 ∷ []) ∷ (57 ∷ 58 ∷ 7 ∷
    47 ∷ 1 ∷ []) ∷ (58 ∷ 59 ∷ 12 ∷ 48 ∷ 47 ∷ 6 ∷ 2 ∷ 87 ∷ []) ∷ (59 ∷ 60 ∷ 19 ∷ 15 ∷ 48 ∷ 0 ∷ []) ∷ (59 ∷ 61 ∷ 19 ∷
    14 ∷ 48 ∷ 0 ∷ []) ∷ (55 ∷ 62 ∷ 0 ∷ []) ∷ (61 ∷ 62 ∷ 0 ∷ []) ∷ (60 ∷ 63 ∷ 1 ∷ 49 ∷ 2 ∷ []) ∷ (62 ∷ 64 ∷ 1 ∷ 49 ∷
    0 ∷ []) ∷ (63 ∷ 65 ∷ 0 ∷ []) ∷ (64 ∷ 65 ∷ 0 ∷ []) ∷ (65 ∷ 66 ∷ 14 ∷ 41 ∷ 49 ∷ 5 ∷ 3 ∷ 2 ∷ 77 ∷ []) ∷ (66 ∷ 67 ∷
    7 ∷ 50 ∷ 3 ∷ []) ∷ (67 ∷ 68 ∷ 7 ∷ 51 ∷ 0 ∷ []) ∷ (68 ∷ 69 ∷ 12 ∷ 52 ∷ 51 ∷ 5 ∷ 2 ∷ 93 ∷ []) ∷ (69 ∷ 70 ∷ 14 ∷ 50
    ∷ 52 ∷ 5 ∷ 3 ∷ 2 ∷ 91 ∷ []) ∷ (70 ∷ 71 ∷ 7 ∷ 53 ∷ 0 ∷ []) ∷ (71 ∷ 72 ∷ 12 ∷ 54 ∷ 53 ∷ 5 ∷ 2 ∷ 95 ∷ []) ∷ (72 ∷
    73 ∷ 7 ∷ 55 ∷ 1 ∷ []) ∷ (73 ∷ 74 ∷ 12 ∷ 56 ∷ 55 ∷ 6 ∷ 2 ∷ 99 ∷ []) ∷ (74 ∷ 75 ∷ 4 ∷ 57 ∷ 5 ∷ 5 ∷ 54 ∷ 56 ∷ 2 ∷
    96 ∷ []) ∷ (75 ∷ 76 ∷ 14 ∷ 53 ∷ 57 ∷ 5 ∷ 0 ∷ 2 ∷ 96 ∷ []) ∷ (76 ∷ 77 ∷ 7 ∷ 58 ∷ 2 ∷ []) ∷ (77 ∷ 78 ∷ 12 ∷ 59 ∷
    58 ∷ 9 ∷ 2 ∷ 101 ∷ []) ∷ (78 ∷ 79 ∷ 7 ∷ 60 ∷ 0 ∷ []) ∷ (79 ∷ 80 ∷ 12 ∷ 61 ∷ 60 ∷ 5 ∷ 2 ∷ 104 ∷ []) ∷ (80 ∷ 81 ∷
    4 ∷ 62 ∷ 3 ∷ 9 ∷ 59 ∷ 61 ∷ 2 ∷ 102 ∷ []) ∷ (81 ∷ 82 ∷ 14 ∷ 58 ∷ 62 ∷ 9 ∷ 2 ∷ 2 ∷ 102 ∷ []) ∷ []
unfolding layout_of call_tree cell_count abstract_count type_cells type_abstracts laid items at name working_type right_type values_fold
edges = refl

nodes : (built laid 0).nodes ≡ 83
unfolding layout_of call_tree cell_count abstract_count type_cells type_abstracts laid items at name working_type right_type values_fold
nodes = refl
