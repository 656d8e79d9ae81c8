-- The graph of a source, from the trees of its items, equal to the one of another implementation: assignments and
-- conversions.
--
--   int x;unsigned char u;long long l;
--   __task(1) void t(void){x=1;u=x;l=u+x;x+=u;u++;--x;x=u=l;}
use Rattle.std.proofs.Common.{◌≡◌, refl, true, false, List, [], ◌∷◌, map, Some, None}
use Rattle.concrete_steps.specs.tm_terms.declared.tokens.Longs.TheVariants as Suffix
use Rattle.concrete_steps.specs.tm_terms.declared.types_named.SpecWord.TheVariants as Specs
use Rattle.concrete_steps.specs.tm_terms.declared.types_named.Basic.TheVariants as Basics
use Rattle.concrete_steps.specs.tm_terms.declared.exprs.Binary.TheVariants as Binaries
use Rattle.concrete_steps.specs.tm_terms.declared.exprs.Infix.TheVariants as Infixes
use Rattle.concrete_steps.specs.tm_terms.declared.exprs.Prefix.TheVariants as Prefixes
use Rattle.concrete_steps.specs.tm_terms.declared.exprs.Postfix.TheVariants as Postfixes
use Rattle.concrete_steps.specs.tm_terms.ExprTrees.{a_name, a_postfix, a_prefix, an_infix, an_integer}
use Rattle.concrete_steps.specs.tm_trees.DeclarationTrees.{a_declared_name, a_plain, and_specifier, no_specifiers}
use Rattle.concrete_steps.specs.tm_trees.FileTrees.{a_declaration, a_step, a_task, a_value, and_part, no_parts}
use Rattle.concrete_steps.specs.tm_trees.FileTrees.{ItemTree}
use Rattle.concrete_steps.specs.tm_typed.Rules.{working_type, right_type, values_fold}
use Rattle.concrete_steps.specs.tm_typed.Files.{first_file_state, items_in}
use Rattle.concrete_steps.specs.tm_laid.CallTrees.{call_tree}
use Rattle.concrete_steps.specs.tm_laid.TypeCells.{cell_count, abstract_count, type_cells, type_abstracts}
use Rattle.concrete_steps.specs.tm_laid.Layouts.{LaidTree, layout_of}
use Rattle.lowering.specs.Built.{built, graph_of}
use Rattle.lowering.proofs.cases.Rows.{at, name, laid_of, row_of}

items : List ItemTree
unfolding at name
items = (a_declaration (record {
  specifiers = (and_specifier (a_plain (record {
    word = (Specs.Basic Basics.Int);
    place
        = (at 1 1);
  })) no_specifiers);
  declarators = (record {
    declarator = (a_declared_name [] (name 4 1) (at 1 5) []);
    initialiser = None;
  }) ∷ [];
})) ∷ (a_declaration (record {
  specifiers = (and_specifier (a_plain (record {
    word =
        (Specs.Basic Basics.Unsigned);
    place = (at 1 7);
  })) (and_specifier (a_plain (record {
    word = (Specs.Basic
        Basics.Char);
    place = (at 1 16);
  })) no_specifiers));
  declarators = (record {
    declarator = (a_declared_name []
        (name 20 1) (at 1 21) []);
    initialiser = None;
  }) ∷ [];
})) ∷ (a_declaration (record {
  specifiers = (and_specifier
      (a_plain (record { word = (Specs.Basic Basics.Long); place = (at 1 23) })) (and_specifier (a_plain (record {
        word
            = (Specs.Basic Basics.Long);
        place = (at 1 28);
      })) no_specifiers));
  declarators = (record {
    declarator =
        (a_declared_name [] (name 32 1) (at 1 33) []);
    initialiser = None;
  }) ∷ [];
})) ∷ (a_task (an_integer (record {
  value = 1;
  decimal = true;
  unsigned = false;
  longs = Suffix.None;
}) (at 2 8)) (name 50 1) (at 2 16) (and_part
    (a_step (a_value (Some (an_infix (a_name (name 4 1) (at 2 24)) Infixes.Assign (at 2 25) (an_integer (record {
      value = 1;
      decimal = true;
      unsigned = false;
      longs = Suffix.None;
    }) (at 2 26)))))) (and_part (a_step (a_value
    (Some (an_infix (a_name (name 20 1) (at 2 28)) Infixes.Assign (at 2 29) (a_name (name 4 1) (at 2 30))))))
    (and_part (a_step (a_value (Some (an_infix (a_name (name 32 1) (at 2 32)) Infixes.Assign (at 2 33) (an_infix
    (a_name (name 20 1) (at 2 34)) (Infixes.Binary Binaries.Add) (at 2 35) (a_name (name 4 1) (at 2 36)))))))
    (and_part (a_step (a_value (Some (an_infix (a_name (name 4 1) (at 2 38)) (Infixes.AssignBy Binaries.Add) (at 2 39)
    (a_name (name 20 1) (at 2 41)))))) (and_part (a_step (a_value (Some (a_postfix (a_name (name 20 1) (at 2 43))
    Postfixes.Increment (at 2 44))))) (and_part (a_step (a_value (Some (a_prefix Prefixes.Decrement (a_name (name 4 1)
    (at 2 49)) (at 2 47))))) (and_part (a_step (a_value (Some (an_infix (a_name (name 4 1) (at 2 51)) Infixes.Assign
    (at 2 52) (an_infix (a_name (name 20 1) (at 2 53)) Infixes.Assign (at 2 54) (a_name (name 32 1) (at 2 55)))))))
    no_parts))))))) (at 2 1)) ∷ []

laid : LaidTree
laid = laid_of (items_in first_file_state items) None

edges : map row_of (graph_of laid 0) ≡ (0 ∷ 1 ∷ 7 ∷ 0 ∷ 0 ∷ []) ∷ (1 ∷ 2 ∷ 1 ∷ 1 ∷ 2 ∷ []) ∷ (2 ∷ 3 ∷ 14 ∷ 0 ∷ 1 ∷ 5 ∷
    0 ∷ 2 ∷ 25 ∷ []) ∷ (3 ∷ 4 ∷ 7 ∷ 2 ∷ 1 ∷ []) ∷ (4 ∷ 5 ∷ 7 ∷ 3 ∷ 0 ∷ []) ∷ (5 ∷ 6 ∷ 12 ∷ 4 ∷ 3 ∷ 5 ∷ 2 ∷ 30 ∷ []) ∷
    (6 ∷ 7 ∷ 6 ∷ 5 ∷ 2 ∷ 4 ∷ []) ∷ (7 ∷ 8 ∷ 14 ∷ 2 ∷ 5 ∷ 2 ∷ 1 ∷ 2 ∷ 29 ∷ []) ∷ (8 ∷ 9 ∷ 7 ∷ 6 ∷ 2 ∷ []) ∷ (9 ∷ 10 ∷ 7
    ∷ 7 ∷ 1 ∷ []) ∷ (10 ∷ 11 ∷ 12 ∷ 8 ∷ 7 ∷ 2 ∷ 2 ∷ 34 ∷ []) ∷ (11 ∷ 12 ∷ 7 ∷ 9 ∷ 0 ∷ []) ∷ (12 ∷ 13 ∷ 12 ∷ 10 ∷ 9 ∷ 5
    ∷ 2 ∷ 36 ∷ []) ∷ (13 ∷ 14 ∷ 4 ∷ 11 ∷ 0 ∷ 5 ∷ 8 ∷ 10 ∷ 2 ∷ 35 ∷ []) ∷ (14 ∷ 15 ∷ 14 ∷ 6 ∷ 11 ∷ 9 ∷ 2 ∷ 2 ∷ 33 ∷ [])
    ∷ (15 ∷ 16 ∷ 7 ∷ 12 ∷ 0 ∷ []) ∷ (16 ∷ 17 ∷ 12 ∷ 13 ∷ 12 ∷ 5 ∷ 2 ∷ 38 ∷ []) ∷ (17 ∷ 18 ∷ 7 ∷ 14 ∷ 1 ∷ []) ∷ (18 ∷
    19 ∷ 12 ∷ 15 ∷ 14 ∷ 2 ∷ 2 ∷ 41 ∷ []) ∷ (19 ∷ 20 ∷ 4 ∷ 16 ∷ 0 ∷ 5 ∷ 13 ∷ 15 ∷ 2 ∷ 39 ∷ []) ∷ (20 ∷ 21 ∷ 14 ∷ 12 ∷
    16 ∷ 5 ∷ 0 ∷ 2 ∷ 39 ∷ []) ∷ (21 ∷ 22 ∷ 7 ∷ 17 ∷ 1 ∷ []) ∷ (22 ∷ 23 ∷ 12 ∷ 18 ∷ 17 ∷ 2 ∷ 2 ∷ 43 ∷ []) ∷ (23 ∷ 24 ∷
    1 ∷ 19 ∷ 2 ∷ []) ∷ (24 ∷ 25 ∷ 4 ∷ 20 ∷ 0 ∷ 5 ∷ 18 ∷ 19 ∷ 2 ∷ 44 ∷ []) ∷ (25 ∷ 26 ∷ 6 ∷ 21 ∷ 2 ∷ 20 ∷ []) ∷ (26 ∷
    27 ∷ 14 ∷ 17 ∷ 21 ∷ 2 ∷ 1 ∷ 2 ∷ 44 ∷ []) ∷ (27 ∷ 28 ∷ 7 ∷ 22 ∷ 0 ∷ []) ∷ (28 ∷ 29 ∷ 12 ∷ 23 ∷ 22 ∷ 5 ∷ 2 ∷ 49 ∷
    []) ∷ (29 ∷ 30 ∷ 1 ∷ 24 ∷ 2 ∷ []) ∷ (30 ∷ 31 ∷ 4 ∷ 25 ∷ 1 ∷ 5 ∷ 23 ∷ 24 ∷ 2 ∷ 47 ∷ []) ∷ (31 ∷ 32 ∷ 14 ∷ 22 ∷ 25 ∷
    5 ∷ 0 ∷ 2 ∷ 47 ∷ []) ∷ (32 ∷ 33 ∷ 7 ∷ 26 ∷ 0 ∷ []) ∷ (33 ∷ 34 ∷ 7 ∷ 27 ∷ 1 ∷ []) ∷ (34 ∷ 35 ∷ 7 ∷ 28 ∷ 2 ∷ []) ∷
    (35 ∷ 36 ∷ 12 ∷ 29 ∷ 28 ∷ 9 ∷ 2 ∷ 55 ∷ []) ∷ (36 ∷ 37 ∷ 6 ∷ 30 ∷ 2 ∷ 29 ∷ []) ∷ (37 ∷ 38 ∷ 14 ∷ 27 ∷ 30 ∷ 2 ∷ 1 ∷
    2 ∷ 54 ∷ []) ∷ (38 ∷ 39 ∷ 14 ∷ 26 ∷ 30 ∷ 5 ∷ 0 ∷ 2 ∷ 52 ∷ []) ∷ []
unfolding layout_of call_tree cell_count abstract_count type_cells type_abstracts laid items at name working_type right_type values_fold
edges = refl

nodes : (built laid 0).nodes ≡ 40
unfolding layout_of call_tree cell_count abstract_count type_cells type_abstracts laid items at name working_type right_type values_fold
nodes = refl
