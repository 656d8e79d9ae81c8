-- The graph of a source, from the trees of its items, equal to the one of another implementation: arrays, structures
-- and pointers.
--
--   int a[4];int m[3][2];int*p;int i;
--   struct S{int x;int v[2];struct S*n;}s,*q;
--   __task(1) void
--     t(void){a[i]=1;m[i][1]=a[2];p=&a[i];p=p+i;*p=2;p[1]=3;s.v[i]=4;q=&s;q->x=5;q->n=q;q->n->v[0]=6;p++;i=p==&a[1];}
use Rattle.std.proofs.Common.{◌≡◌, refl, true, false, List, [], ◌∷◌, map, Some, None}
use Rattle.concrete_steps.specs.tm_terms.declared.tokens.Longs.TheVariants as Suffix
use Rattle.concrete_steps.specs.tm_terms.declared.types_named.SpecWord.TheVariants as Specs
use Rattle.concrete_steps.specs.tm_terms.declared.types_named.Basic.TheVariants as Basics
use Rattle.concrete_steps.specs.tm_terms.declared.types_named.TagKind.TheVariants as Kinds
use Rattle.concrete_steps.specs.tm_terms.declared.types_named.PointerWord.TheVariants as PointerWords
use Rattle.concrete_steps.specs.tm_terms.declared.exprs.Binary.TheVariants as Binaries
use Rattle.concrete_steps.specs.tm_terms.declared.exprs.Infix.TheVariants as Infixes
use Rattle.concrete_steps.specs.tm_terms.declared.exprs.Prefix.TheVariants as Prefixes
use Rattle.concrete_steps.specs.tm_terms.declared.exprs.Postfix.TheVariants as Postfixes
use Rattle.concrete_steps.specs.tm_terms.declared.exprs.Access.TheVariants as Accesses
use Rattle.concrete_steps.specs.tm_terms.ExprTrees.{a_name, an_integer, a_prefix, an_infix, a_subscript, a_member}
use Rattle.concrete_steps.specs.tm_terms.ExprTrees.{a_postfix}
use Rattle.concrete_steps.specs.tm_trees.DeclarationTrees.{a_declared_name, a_plain, a_struct, no_specifiers}
use Rattle.concrete_steps.specs.tm_trees.DeclarationTrees.{and_specifier}
use Rattle.concrete_steps.specs.tm_trees.DeclarationTrees.{no_members, and_members}
use Rattle.concrete_steps.specs.tm_trees.FileTrees.{a_value, a_step, no_parts, and_part, ItemTree, a_declaration}
use Rattle.concrete_steps.specs.tm_trees.FileTrees.{a_task}
use Rattle.concrete_steps.specs.tm_typed.Rules.{working_type, right_type, values_fold}
use Rattle.concrete_steps.specs.tm_typed.Files.{first_file_state, items_in}
use Rattle.concrete_steps.specs.tm_laid.CallTrees.{call_tree}
use Rattle.concrete_steps.specs.tm_laid.TypeCells.{cell_count, abstract_count, type_cells, type_abstracts}
use Rattle.concrete_steps.specs.tm_laid.Layouts.{LaidTree, layout_of}
use Rattle.lowering.specs.Built.{built, graph_of}
use Rattle.lowering.proofs.cases.Rows.{at, name, laid_of, row_of}

items : List ItemTree
unfolding at name
items = (a_declaration (record {
  specifiers = (and_specifier (a_plain (record {
    word = (Specs.Basic Basics.Int);
    place = (at 1 1);
  })) no_specifiers);
  declarators = (record {
    declarator = (a_declared_name ([]) (name 4 1) (at 1
        5) ((record {
          value = (Some (an_integer (record {
            value = 4;
            decimal = true;
            unsigned = false;
            longs =
                Suffix.None;
          }) (at 1 7)));
          place = (at 1 6);
        }) ∷ []));
    initialiser = None;
  }) ∷ [];
})) ∷ (a_declaration (record {
  specifiers = (and_specifier (a_plain (record { word = (Specs.Basic Basics.Int); place = (at 1 10) }))
      no_specifiers);
  declarators = (record {
    declarator = (a_declared_name ([]) (name 13 1) (at 1 14) ((record {
      value = (Some (an_integer (record { value = 3; decimal = true; unsigned = false; longs = Suffix.None }) (at 1
          16)));
      place = (at 1 15);
    }) ∷ (record {
      value = (Some (an_integer (record {
        value = 2;
        decimal = true;
        unsigned
            = false;
        longs = Suffix.None;
      }) (at 1 19)));
      place = (at 1 18);
    }) ∷ []));
    initialiser = None;
  }) ∷ [];
})) ∷
    (a_declaration (record {
      specifiers = (and_specifier (a_plain (record {
        word = (Specs.Basic Basics.Int);
        place =
            (at 1 22);
      })) no_specifiers);
      declarators = (record {
        declarator = (a_declared_name (PointerWords.Star ∷ [])
            (name 25 1) (at 1 26) ([]));
        initialiser = None;
      }) ∷ [];
    })) ∷ (a_declaration (record {
      specifiers =
          (and_specifier (a_plain (record { word = (Specs.Basic Basics.Int); place = (at 1 28) })) no_specifiers);
      declarators = (record { declarator = (a_declared_name ([]) (name 31 1) (at 1 32) ([])); initialiser = None }) ∷
          [];
    })) ∷ (a_declaration (record {
      specifiers = (and_specifier (a_struct (Some (record {
        name = (name 41 1);
        place = (at 2 8);
      })) (and_members (and_specifier (a_plain (record {
        word = (Specs.Basic Basics.Int);
        place = (at
            2 10);
      })) no_specifiers) ((a_declared_name ([]) (name 47 1) (at 2 14) ([])) ∷ []) (and_members (and_specifier
          (a_plain (record { word = (Specs.Basic Basics.Int); place = (at 2 16) })) no_specifiers)
          ((a_declared_name ([])
          (name 53 1) (at 2 20) ((record {
            value = (Some (an_integer (record {
              value = 2;
              decimal = true;
              unsigned =
                  false;
              longs = Suffix.None;
            }) (at 2 22)));
            place = (at 2 21);
          }) ∷ [])) ∷ []) (and_members (and_specifier
          (a_plain (record { word = (Specs.Tagged Kinds.Struct (name 41 1) (at 2 32)); place = (at 2 25) }))
          no_specifiers) ((a_declared_name (PointerWords.Star ∷ []) (name 67 1) (at 2 34) ([])) ∷ []) no_members)))
          (at 2
          1)) no_specifiers);
      declarators = (record {
        declarator = (a_declared_name ([]) (name 70 1) (at 2 37) ([]));
        initialiser = None;
      }) ∷ (record {
        declarator = (a_declared_name (PointerWords.Star ∷ []) (name 73 1) (at 2 40)
            ([]));
        initialiser = None;
      }) ∷ [];
    })) ∷ (a_task (an_integer (record {
      value = 1;
      decimal = true;
      unsigned =
          false;
      longs = Suffix.None;
    }) (at 3 8)) (name 91 1) (at 3 16) (and_part (a_step (a_value (Some (an_infix
    (a_subscript (a_name (name 4 1) (at 3 24)) (at 3 25) (a_name (name 31 1) (at 3 26))) Infixes.Assign (at 3 28)
    (an_integer (record { value = 1; decimal = true; unsigned = false; longs = Suffix.None }) (at 3 29))))))
    (and_part (a_step (a_value (Some (an_infix (a_subscript (a_subscript (a_name (name 13 1) (at 3 31)) (at 3 32)
    (a_name (name 31 1) (at 3 33))) (at 3 35) (an_integer (record {
      value = 1;
      decimal = true;
      unsigned = false;
      longs = Suffix.None;
    }) (at 3 36))) Infixes.Assign (at 3 38) (a_subscript (a_name (name 4 1) (at 3 39)) (at 3 40)
    (an_integer (record { value = 2; decimal = true; unsigned = false; longs = Suffix.None }) (at 3 41)))))))
    (and_part (a_step (a_value (Some (an_infix (a_name (name 25 1) (at 3 44)) Infixes.Assign (at 3 45) (a_prefix
    Prefixes.Address (a_subscript (a_name (name 4 1) (at 3 47)) (at 3 48) (a_name (name 31 1) (at 3 49))) (at 3
    46)))))) (and_part (a_step (a_value (Some (an_infix (a_name (name 25 1) (at 3 52)) Infixes.Assign (at 3 53)
    (an_infix (a_name (name 25 1) (at 3 54)) (Infixes.Binary Binaries.Add) (at 3 55) (a_name (name 31 1) (at 3
    56))))))) (and_part (a_step (a_value (Some (an_infix (a_prefix Prefixes.Dereference (a_name (name 25 1) (at 3
    59)) (at 3 58)) Infixes.Assign (at 3 60) (an_integer (record {
      value = 2;
      decimal = true;
      unsigned = false;
      longs = Suffix.None;
    }) (at 3 61)))))) (and_part (a_step (a_value (Some (an_infix (a_subscript (a_name (name 25
    1) (at 3 63)) (at 3 64) (an_integer (record {
      value = 1;
      decimal = true;
      unsigned = false;
      longs = Suffix.None;
    }) (at 3 65))) Infixes.Assign (at 3 67) (an_integer (record {
      value = 3;
      decimal = true;
      unsigned = false;
      longs
          = Suffix.None;
    }) (at 3 68)))))) (and_part (a_step (a_value (Some (an_infix (a_subscript (a_member (a_name (name
    70 1) (at 3 70)) Accesses.Dot (at 3 71) (name 53 1) (at 3 72)) (at 3 73) (a_name (name 31 1) (at 3 74)))
    Infixes.Assign (at 3 76) (an_integer (record {
      value = 4;
      decimal = true;
      unsigned = false;
      longs = Suffix.None;
    }) (at 3 77)))))) (and_part (a_step (a_value (Some (an_infix (a_name (name 73 1) (at 3 79)) Infixes.Assign (at 3
    80) (a_prefix Prefixes.Address (a_name (name 70 1) (at 3 82)) (at 3 81)))))) (and_part (a_step (a_value (Some
    (an_infix (a_member (a_name (name 73 1) (at 3 84)) Accesses.Arrow (at 3 85) (name 47 1) (at 3 87))
    Infixes.Assign (at 3 88) (an_integer (record {
      value = 5;
      decimal = true;
      unsigned = false;
      longs = Suffix.None;
    }) (at 3 89)))))) (and_part (a_step (a_value (Some (an_infix (a_member (a_name (name 73 1) (at 3 91))
    Accesses.Arrow (at 3 92) (name 67 1) (at 3 94)) Infixes.Assign (at 3 95) (a_name (name 73 1) (at 3 96))))))
    (and_part (a_step (a_value (Some (an_infix (a_subscript (a_member (a_member (a_name (name 73 1) (at 3 98))
    Accesses.Arrow (at 3 99) (name 67 1) (at 3 101)) Accesses.Arrow (at 3 102) (name 53 1) (at 3 104)) (at 3 105)
    (an_integer (record { value = 0; decimal = false; unsigned = false; longs = Suffix.None }) (at 3 106)))
    Infixes.Assign (at 3 108) (an_integer (record {
      value = 6;
      decimal = true;
      unsigned = false;
      longs = Suffix.None;
    }) (at 3 109)))))) (and_part (a_step (a_value (Some (a_postfix (a_name (name 25 1) (at 3 111))
    Postfixes.Increment (at 3 112))))) (and_part (a_step (a_value (Some (an_infix (a_name (name 31 1) (at 3 115))
    Infixes.Assign (at 3 116) (an_infix (a_name (name 25 1) (at 3 117)) (Infixes.Binary Binaries.Equal) (at 3 118)
    (a_prefix Prefixes.Address (a_subscript (a_name (name 4 1) (at 3 121)) (at 3 122) (an_integer (record {
      value =
          1;
      decimal = true;
      unsigned = false;
      longs = Suffix.None;
    }) (at 3 123))) (at 3 120))))))) no_parts)))))))))))))
    (at 3 1)) ∷ []

laid : LaidTree
laid = laid_of (items_in first_file_state items) None

edges : map row_of (graph_of laid 0) ≡ (0 ∷ 1 ∷ 7 ∷ 0 ∷ 0 ∷ []) ∷ (1 ∷ 2 ∷ 7 ∷ 1 ∷ 3 ∷ []) ∷ (2 ∷ 3 ∷ 12 ∷ 2 ∷ 1 ∷ 5
    ∷ 3 ∷ 26 ∷ []) ∷ (3 ∷ 4 ∷ 9 ∷ 3 ∷ 0 ∷ 4 ∷ 1 ∷ 2 ∷ 3 ∷ 25 ∷ []) ∷ (4 ∷ 5 ∷ 1 ∷ 4 ∷ 2 ∷ []) ∷ (5 ∷ 6 ∷ 14 ∷ 3 ∷ 4
    ∷ 5 ∷ 0 ∷ 3 ∷ 28 ∷ []) ∷ (6 ∷ 7 ∷ 7 ∷ 5 ∷ 1 ∷ []) ∷ (7 ∷ 8 ∷ 7 ∷ 6 ∷ 3 ∷ []) ∷ (8 ∷ 9 ∷ 12 ∷ 7 ∷ 6 ∷ 5 ∷ 3 ∷ 33
    ∷ []) ∷ (9 ∷ 10 ∷ 9 ∷ 8 ∷ 5 ∷ 3 ∷ 2 ∷ 7 ∷ 3 ∷ 32 ∷ []) ∷ (10 ∷ 11 ∷ 1 ∷ 9 ∷ 2 ∷ []) ∷ (11 ∷ 12 ∷ 9 ∷ 10 ∷ 8 ∷ 2
    ∷ 1 ∷ 9 ∷ 3 ∷ 35 ∷ []) ∷ (12 ∷ 13 ∷ 7 ∷ 11 ∷ 0 ∷ []) ∷ (13 ∷ 14 ∷ 1 ∷ 12 ∷ 4 ∷ []) ∷ (14 ∷ 15 ∷ 9 ∷ 13 ∷ 11 ∷ 4
    ∷ 1 ∷ 12 ∷ 3 ∷ 40 ∷ []) ∷ (15 ∷ 16 ∷ 12 ∷ 14 ∷ 13 ∷ 5 ∷ 3 ∷ 40 ∷ []) ∷ (16 ∷ 17 ∷ 14 ∷ 10 ∷ 14 ∷ 5 ∷ 1 ∷ 3 ∷ 38
    ∷ []) ∷ (17 ∷ 18 ∷ 7 ∷ 15 ∷ 2 ∷ []) ∷ (18 ∷ 19 ∷ 7 ∷ 16 ∷ 0 ∷ []) ∷ (19 ∷ 20 ∷ 7 ∷ 17 ∷ 3 ∷ []) ∷ (20 ∷ 21 ∷ 12
    ∷ 18 ∷ 17 ∷ 5 ∷ 3 ∷ 49 ∷ []) ∷ (21 ∷ 22 ∷ 10 ∷ 19 ∷ 16 ∷ 1 ∷ 0 ∷ 18 ∷ 3 ∷ 48 ∷ []) ∷ (22 ∷ 23 ∷ 14 ∷ 15 ∷ 19 ∷
    20 ∷ 2 ∷ 3 ∷ 45 ∷ []) ∷ (23 ∷ 24 ∷ 7 ∷ 20 ∷ 2 ∷ []) ∷ (24 ∷ 25 ∷ 7 ∷ 21 ∷ 2 ∷ []) ∷ (25 ∷ 26 ∷ 12 ∷ 22 ∷ 21 ∷ 20
    ∷ 3 ∷ 54 ∷ []) ∷ (26 ∷ 27 ∷ 7 ∷ 23 ∷ 3 ∷ []) ∷ (27 ∷ 28 ∷ 12 ∷ 24 ∷ 23 ∷ 5 ∷ 3 ∷ 56 ∷ []) ∷ (28 ∷ 29 ∷ 10 ∷ 25 ∷
    22 ∷ 1 ∷ 0 ∷ 24 ∷ 3 ∷ 55 ∷ []) ∷ (29 ∷ 30 ∷ 14 ∷ 20 ∷ 25 ∷ 20 ∷ 2 ∷ 3 ∷ 53 ∷ []) ∷ (30 ∷ 31 ∷ 7 ∷ 26 ∷ 2 ∷ []) ∷
    (31 ∷ 32 ∷ 12 ∷ 27 ∷ 26 ∷ 20 ∷ 3 ∷ 59 ∷ []) ∷ (32 ∷ 33 ∷ 11 ∷ 28 ∷ 27 ∷ 0 ∷ 3 ∷ 58 ∷ []) ∷ (33 ∷ 34 ∷ 1 ∷ 29 ∷ 4
    ∷ []) ∷ (34 ∷ 35 ∷ 14 ∷ 28 ∷ 29 ∷ 5 ∷ 1000 ∷ 3 ∷ 60 ∷ []) ∷ (35 ∷ 36 ∷ 7 ∷ 30 ∷ 2 ∷ []) ∷ (36 ∷ 37 ∷ 12 ∷ 31 ∷
    30 ∷ 20 ∷ 3 ∷ 63 ∷ []) ∷ (37 ∷ 38 ∷ 1 ∷ 32 ∷ 2 ∷ []) ∷ (38 ∷ 39 ∷ 10 ∷ 33 ∷ 31 ∷ 1 ∷ 0 ∷ 32 ∷ 3 ∷ 64 ∷ []) ∷ (39
    ∷ 40 ∷ 11 ∷ 34 ∷ 33 ∷ 0 ∷ 3 ∷ 64 ∷ []) ∷ (40 ∷ 41 ∷ 1 ∷ 35 ∷ 6 ∷ []) ∷ (41 ∷ 42 ∷ 14 ∷ 34 ∷ 35 ∷ 5 ∷ 1000 ∷ 3 ∷
    67 ∷ []) ∷ (42 ∷ 43 ∷ 7 ∷ 36 ∷ 4 ∷ []) ∷ (43 ∷ 44 ∷ 8 ∷ 37 ∷ 36 ∷ 1 ∷ []) ∷ (44 ∷ 45 ∷ 7 ∷ 38 ∷ 3 ∷ []) ∷ (45 ∷
    46 ∷ 12 ∷ 39 ∷ 38 ∷ 5 ∷ 3 ∷ 74 ∷ []) ∷ (46 ∷ 47 ∷ 9 ∷ 40 ∷ 37 ∷ 2 ∷ 1 ∷ 39 ∷ 3 ∷ 73 ∷ []) ∷ (47 ∷ 48 ∷ 1 ∷ 41 ∷
    8 ∷ []) ∷ (48 ∷ 49 ∷ 14 ∷ 40 ∷ 41 ∷ 5 ∷ 4 ∷ 3 ∷ 76 ∷ []) ∷ (49 ∷ 50 ∷ 7 ∷ 42 ∷ 5 ∷ []) ∷ (50 ∷ 51 ∷ 7 ∷ 43 ∷ 4 ∷
    []) ∷ (51 ∷ 52 ∷ 14 ∷ 42 ∷ 43 ∷ 20 ∷ 5 ∷ 3 ∷ 80 ∷ []) ∷ (52 ∷ 53 ∷ 7 ∷ 44 ∷ 5 ∷ []) ∷ (53 ∷ 54 ∷ 12 ∷ 45 ∷ 44 ∷
    20 ∷ 3 ∷ 84 ∷ []) ∷ (54 ∷ 55 ∷ 11 ∷ 46 ∷ 45 ∷ 0 ∷ 3 ∷ 85 ∷ []) ∷ (55 ∷ 56 ∷ 8 ∷ 47 ∷ 46 ∷ 0 ∷ []) ∷ (56 ∷ 57 ∷ 1
    ∷ 48 ∷ 10 ∷ []) ∷ (57 ∷ 58 ∷ 14 ∷ 47 ∷ 48 ∷ 5 ∷ 1000 ∷ 3 ∷ 88 ∷ []) ∷ (58 ∷ 59 ∷ 7 ∷ 49 ∷ 5 ∷ []) ∷ (59 ∷ 60 ∷
    12 ∷ 50 ∷ 49 ∷ 20 ∷ 3 ∷ 91 ∷ []) ∷ (60 ∷ 61 ∷ 11 ∷ 51 ∷ 50 ∷ 0 ∷ 3 ∷ 92 ∷ []) ∷ (61 ∷ 62 ∷ 8 ∷ 52 ∷ 51 ∷ 3 ∷ [])
    ∷ (62 ∷ 63 ∷ 7 ∷ 53 ∷ 5 ∷ []) ∷ (63 ∷ 64 ∷ 12 ∷ 54 ∷ 53 ∷ 20 ∷ 3 ∷ 96 ∷ []) ∷ (64 ∷ 65 ∷ 14 ∷ 52 ∷ 54 ∷ 20 ∷
    1000 ∷ 3 ∷ 95 ∷ []) ∷ (65 ∷ 66 ∷ 7 ∷ 55 ∷ 5 ∷ []) ∷ (66 ∷ 67 ∷ 12 ∷ 56 ∷ 55 ∷ 20 ∷ 3 ∷ 98 ∷ []) ∷ (67 ∷ 68 ∷ 11
    ∷ 57 ∷ 56 ∷ 0 ∷ 3 ∷ 99 ∷ []) ∷ (68 ∷ 69 ∷ 8 ∷ 58 ∷ 57 ∷ 3 ∷ []) ∷ (69 ∷ 70 ∷ 12 ∷ 59 ∷ 58 ∷ 20 ∷ 3 ∷ 99 ∷ []) ∷
    (70 ∷ 71 ∷ 11 ∷ 60 ∷ 59 ∷ 0 ∷ 3 ∷ 102 ∷ []) ∷ (71 ∷ 72 ∷ 8 ∷ 61 ∷ 60 ∷ 1 ∷ []) ∷ (72 ∷ 73 ∷ 1 ∷ 62 ∷ 0 ∷ []) ∷
    (73 ∷ 74 ∷ 9 ∷ 63 ∷ 61 ∷ 2 ∷ 1 ∷ 62 ∷ 3 ∷ 105 ∷ []) ∷ (74 ∷ 75 ∷ 1 ∷ 64 ∷ 12 ∷ []) ∷ (75 ∷ 76 ∷ 14 ∷ 63 ∷ 64 ∷ 5
    ∷ 1000 ∷ 3 ∷ 108 ∷ []) ∷ (76 ∷ 77 ∷ 7 ∷ 65 ∷ 2 ∷ []) ∷ (77 ∷ 78 ∷ 12 ∷ 66 ∷ 65 ∷ 20 ∷ 3 ∷ 111 ∷ []) ∷ (78 ∷ 79 ∷
    1 ∷ 67 ∷ 2 ∷ []) ∷ (79 ∷ 80 ∷ 10 ∷ 68 ∷ 66 ∷ 1 ∷ 0 ∷ 67 ∷ 3 ∷ 112 ∷ []) ∷ (80 ∷ 81 ∷ 14 ∷ 65 ∷ 68 ∷ 20 ∷ 2 ∷ 3 ∷
    112 ∷ []) ∷ (81 ∷ 82 ∷ 7 ∷ 69 ∷ 3 ∷ []) ∷ (82 ∷ 83 ∷ 7 ∷ 70 ∷ 2 ∷ []) ∷ (83 ∷ 84 ∷ 12 ∷ 71 ∷ 70 ∷ 20 ∷ 3 ∷ 117 ∷
    []) ∷ (84 ∷ 85 ∷ 7 ∷ 72 ∷ 0 ∷ []) ∷ (85 ∷ 86 ∷ 1 ∷ 73 ∷ 2 ∷ []) ∷ (86 ∷ 87 ∷ 10 ∷ 74 ∷ 72 ∷ 1 ∷ 0 ∷ 73 ∷ 3 ∷ 122
    ∷ []) ∷ (87 ∷ 88 ∷ 17 ∷ 71 ∷ 3 ∷ 118 ∷ []) ∷ (88 ∷ 89 ∷ 17 ∷ 74 ∷ 3 ∷ 118 ∷ []) ∷ (89 ∷ 90 ∷ 5 ∷ 75 ∷ 1 ∷ 71 ∷
    74 ∷ []) ∷ (90 ∷ 91 ∷ 14 ∷ 69 ∷ 75 ∷ 5 ∷ 3 ∷ 3 ∷ 116 ∷ []) ∷ []
unfolding layout_of call_tree cell_count abstract_count type_cells type_abstracts laid items at name working_type right_type values_fold
edges = refl

nodes : (built laid 0).nodes ≡ 92
unfolding layout_of call_tree cell_count abstract_count type_cells type_abstracts laid items at name working_type right_type values_fold
nodes = refl
