-- The graph of a source, from the trees of its items, equal to the one of another implementation: calls, parameters,
-- results and missing returns.
--
--   int r;
--   int max(int a,int b){if(a>b)return a;return b;}
--   void put(int*p,int v){*p=v;}
--   int none(int a){r=a;}
--   __task(1) void t(void){r=max(r,max(2,r));put(&r,3);r=none(4);}
use Rattle.std.proofs.Common.{◌≡◌, refl, ℕ, zero, suc, ◌<◌, true, false, List, [], ◌∷◌, length, map, Some, None, arith}
use Rattle.std.specs.Prelude.{get_or}
use Rattle.concrete_steps.specs.tm_terms.declared.tokens.Longs.TheVariants as Suffix
use Rattle.concrete_steps.specs.tm_terms.declared.types_named.SpecWord.TheVariants as Specs
use Rattle.concrete_steps.specs.tm_terms.declared.types_named.Basic.TheVariants as Basics
use Rattle.concrete_steps.specs.tm_terms.declared.types_named.PointerWord.TheVariants as PointerWords
use Rattle.concrete_steps.specs.tm_terms.declared.exprs.Binary.TheVariants as Binaries
use Rattle.concrete_steps.specs.tm_terms.declared.exprs.Infix.TheVariants as Infixes
use Rattle.concrete_steps.specs.tm_terms.declared.exprs.Prefix.TheVariants as Prefixes
use Rattle.concrete_steps.specs.tm_terms.ExprTrees.{a_name, an_integer, a_call, a_prefix, an_infix, no_arguments}
use Rattle.concrete_steps.specs.tm_terms.ExprTrees.{and_argument}
use Rattle.concrete_steps.specs.tm_trees.DeclarationTrees.{a_declared_name, a_plain, no_specifiers, and_specifier}
use Rattle.concrete_steps.specs.tm_trees.FileTrees.{a_value, an_if, a_return, a_step, no_parts, and_part}
use Rattle.concrete_steps.specs.tm_trees.FileTrees.{a_named_parameter}
use Rattle.concrete_steps.specs.tm_trees.FileTrees.{some_parameters, ItemTree, a_declaration, a_function, a_task}
use Rattle.concrete_steps.specs.tm_typed.Rules.{working_type, right_type, values_fold}
use Rattle.concrete_steps.specs.tm_typed.Files.{first_file_state, items_in}
use Rattle.concrete_steps.specs.tm_laid.CallTrees.{call_tree}
use Rattle.concrete_steps.specs.tm_laid.TypeCells.{cell_count, abstract_count, type_cells, type_abstracts}
use Rattle.concrete_steps.specs.tm_laid.Layouts.{LaidTree, layout_of}
use Rattle.concrete_steps.specs.Places.{result_type}
use Rattle.concrete_steps.specs.NextAction.{function_at}
use Rattle.lowering.specs.Table.{is_value_type}
use Rattle.lowering.specs.Built.{built, graph_of}
use Rattle.lowering.specs.Lowerable.{IsBody, IsLowerable}
use Rattle.lowering.proofs.Pendings.{EachNode}
use Rattle.lowering.proofs.cases.Rows.{at, name, laid_of, row_of}

items : List ItemTree
unfolding at name
items = (a_declaration (record {
  specifiers = (and_specifier (a_plain (record {
    word = (Specs.Basic Basics.Int);
    place = (at 1 1);
  })) no_specifiers);
  declarators = (record {
    declarator = (a_declared_name ([]) (name 4 1) (at 1
        5) ([]));
    initialiser = None;
  }) ∷ [];
})) ∷ (a_function (record {
  specifiers = (and_specifier (a_plain (record {
    word = (Specs.Basic Basics.Int);
    place = (at 2 1);
  })) no_specifiers);
  pointers = [];
  name = (name 11 3);
  parameters = (some_parameters ((a_named_parameter (and_specifier (a_plain (record {
    word = (Specs.Basic
        Basics.Int);
    place = (at 2 9);
  })) no_specifiers) (a_declared_name ([]) (name 19 1) (at 2 13) ([]))) ∷
      (a_named_parameter (and_specifier (a_plain (record { word = (Specs.Basic Basics.Int); place = (at 2 15) }))
      no_specifiers) (a_declared_name ([]) (name 25 1) (at 2 19) ([]))) ∷ []));
  body = (Some (and_part (a_step (an_if
      (an_infix (a_name (name 19 1) (at 2 25)) (Infixes.Binary Binaries.Greater) (at 2 26) (a_name (name 25 1) (at 2
      27))) (a_return (Some (a_name (name 19 1) (at 2 36))) (at 2 29)))) (and_part (a_step (a_return (Some (a_name
      (name 25 1) (at 2 45))) (at 2 38))) no_parts)));
  place = (at 2 5);
})) ∷ (a_function (record {
  specifiers =
      (and_specifier (a_plain (record { word = (Specs.Basic Basics.Void); place = (at 3 1) })) no_specifiers);
  pointers = [];
  name = (name 60 3);
  parameters = (some_parameters ((a_named_parameter (and_specifier (a_plain
      (record { word = (Specs.Basic Basics.Int); place = (at 3 10) })) no_specifiers) (a_declared_name
      (PointerWords.Star ∷ []) (name 68 1) (at 3 14) ([]))) ∷ (a_named_parameter (and_specifier (a_plain (record {
        word = (Specs.Basic Basics.Int);
        place = (at 3 16);
      })) no_specifiers) (a_declared_name ([]) (name 74 1) (at 3
      20) ([]))) ∷ []));
  body = (Some (and_part (a_step (a_value (Some (an_infix (a_prefix Prefixes.Dereference
      (a_name (name 68 1) (at 3 24)) (at 3 23)) Infixes.Assign (at 3 25) (a_name (name 74 1) (at 3 26))))))
      no_parts));
  place = (at 3 6);
})) ∷ (a_function (record {
  specifiers = (and_specifier (a_plain (record {
    word =
        (Specs.Basic Basics.Int);
    place = (at 4 1);
  })) no_specifiers);
  pointers = [];
  name = (name 88 4);
  parameters =
      (some_parameters ((a_named_parameter (and_specifier (a_plain (record {
        word = (Specs.Basic Basics.Int);
        place =
            (at 4 10);
      })) no_specifiers) (a_declared_name ([]) (name 19 1) (at 4 14) ([]))) ∷ []));
  body = (Some (and_part
      (a_step (a_value (Some (an_infix (a_name (name 4 1) (at 4 17)) Infixes.Assign (at 4 18) (a_name (name 19 1) (at
      4 19)))))) no_parts));
  place = (at 4 5);
})) ∷ (a_task (an_integer (record {
  value = 1;
  decimal = true;
  unsigned
      = false;
  longs = Suffix.None;
}) (at 5 8)) (name 121 1) (at 5 16) (and_part (a_step (a_value (Some (an_infix
    (a_name (name 4 1) (at 5 24)) Infixes.Assign (at 5 25) (a_call (name 11 3) (and_argument (a_name (name 4 1) (at
    5 30)) (and_argument (a_call (name 11 3) (and_argument (an_integer (record {
      value = 2;
      decimal = true;
      unsigned
          = false;
      longs = Suffix.None;
    }) (at 5 36)) (and_argument (a_name (name 4 1) (at 5 38)) no_arguments)) (at 5 32))
    no_arguments)) (at 5 26)))))) (and_part (a_step (a_value (Some (a_call (name 60 3) (and_argument (a_prefix
    Prefixes.Address (a_name (name 4 1) (at 5 47)) (at 5 46)) (and_argument (an_integer (record {
      value = 3;
      decimal
          = true;
      unsigned = false;
      longs = Suffix.None;
    }) (at 5 49)) no_arguments)) (at 5 42))))) (and_part (a_step
    (a_value (Some (an_infix (a_name (name 4 1) (at 5 52)) Infixes.Assign (at 5 53) (a_call (name 88 4)
    (and_argument (an_integer (record { value = 4; decimal = true; unsigned = false; longs = Suffix.None }) (at 5
    59)) no_arguments) (at 5 54)))))) no_parts))) (at 5 1)) ∷ []

laid : LaidTree
laid = laid_of (items_in first_file_state items) None

edges : map row_of (graph_of laid 0) ≡ (0 ∷ 1 ∷ 7 ∷ 0 ∷ 0 ∷ []) ∷ (1 ∷ 2 ∷ 7 ∷ 1 ∷ 0 ∷ []) ∷ (2 ∷ 3 ∷ 12 ∷ 2 ∷ 1 ∷ 5
    ∷ 5 ∷ 30 ∷ []) ∷ (3 ∷ 4 ∷ 1 ∷ 3 ∷ 4 ∷ []) ∷ (4 ∷ 5 ∷ 7 ∷ 4 ∷ 0 ∷ []) ∷ (5 ∷ 6 ∷ 12 ∷ 5 ∷ 4 ∷ 5 ∷ 5 ∷ 38 ∷ []) ∷
    (6 ∷ 7 ∷ 7 ∷ 6 ∷ 3 ∷ []) ∷ (7 ∷ 8 ∷ 14 ∷ 6 ∷ 3 ∷ 5 ∷ 3 ∷ 5 ∷ 32 ∷ []) ∷ (8 ∷ 9 ∷ 7 ∷ 7 ∷ 4 ∷ []) ∷ (9 ∷ 10 ∷ 14
    ∷ 7 ∷ 5 ∷ 5 ∷ 4 ∷ 5 ∷ 32 ∷ []) ∷ (10 ∷ 11 ∷ 7 ∷ 8 ∷ 3 ∷ []) ∷ (11 ∷ 12 ∷ 12 ∷ 9 ∷ 8 ∷ 5 ∷ 2 ∷ 25 ∷ []) ∷ (12 ∷
    13 ∷ 7 ∷ 10 ∷ 4 ∷ []) ∷ (13 ∷ 14 ∷ 12 ∷ 11 ∷ 10 ∷ 5 ∷ 2 ∷ 27 ∷ []) ∷ (14 ∷ 15 ∷ 18 ∷ 12 ∷ 9 ∷ 11 ∷ []) ∷ (14 ∷
    16 ∷ 18 ∷ 11 ∷ 9 ∷ 11 ∷ []) ∷ (15 ∷ 17 ∷ 7 ∷ 12 ∷ 3 ∷ []) ∷ (17 ∷ 18 ∷ 12 ∷ 13 ∷ 12 ∷ 5 ∷ 2 ∷ 36 ∷ []) ∷ (18 ∷
    19 ∷ 2 ∷ 14 ∷ 13 ∷ []) ∷ (20 ∷ 21 ∷ 0 ∷ []) ∷ (16 ∷ 21 ∷ 0 ∷ []) ∷ (21 ∷ 22 ∷ 7 ∷ 15 ∷ 4 ∷ []) ∷ (22 ∷ 23 ∷ 12 ∷
    16 ∷ 15 ∷ 5 ∷ 2 ∷ 45 ∷ []) ∷ (23 ∷ 24 ∷ 2 ∷ 14 ∷ 16 ∷ []) ∷ (25 ∷ 26 ∷ 15 ∷ 14 ∷ 4294967295 ∷ 4294967294 ∷ []) ∷
    (19 ∷ 27 ∷ 0 ∷ []) ∷ (24 ∷ 27 ∷ 0 ∷ []) ∷ (26 ∷ 27 ∷ 0 ∷ []) ∷ (27 ∷ 28 ∷ 7 ∷ 17 ∷ 1 ∷ []) ∷ (28 ∷ 29 ∷ 14 ∷ 17
    ∷ 2 ∷ 5 ∷ 1 ∷ 5 ∷ 26 ∷ []) ∷ (29 ∷ 30 ∷ 7 ∷ 18 ∷ 2 ∷ []) ∷ (30 ∷ 31 ∷ 14 ∷ 18 ∷ 14 ∷ 5 ∷ 2 ∷ 5 ∷ 26 ∷ []) ∷ (31
    ∷ 32 ∷ 7 ∷ 19 ∷ 1 ∷ []) ∷ (32 ∷ 33 ∷ 12 ∷ 20 ∷ 19 ∷ 5 ∷ 2 ∷ 25 ∷ []) ∷ (33 ∷ 34 ∷ 7 ∷ 21 ∷ 2 ∷ []) ∷ (34 ∷ 35 ∷
    12 ∷ 22 ∷ 21 ∷ 5 ∷ 2 ∷ 27 ∷ []) ∷ (35 ∷ 36 ∷ 18 ∷ 12 ∷ 20 ∷ 22 ∷ []) ∷ (35 ∷ 37 ∷ 18 ∷ 11 ∷ 20 ∷ 22 ∷ []) ∷ (36
    ∷ 38 ∷ 7 ∷ 23 ∷ 1 ∷ []) ∷ (38 ∷ 39 ∷ 12 ∷ 24 ∷ 23 ∷ 5 ∷ 2 ∷ 36 ∷ []) ∷ (39 ∷ 40 ∷ 2 ∷ 25 ∷ 24 ∷ []) ∷ (41 ∷ 42 ∷
    0 ∷ []) ∷ (37 ∷ 42 ∷ 0 ∷ []) ∷ (42 ∷ 43 ∷ 7 ∷ 26 ∷ 2 ∷ []) ∷ (43 ∷ 44 ∷ 12 ∷ 27 ∷ 26 ∷ 5 ∷ 2 ∷ 45 ∷ []) ∷ (44 ∷
    45 ∷ 2 ∷ 25 ∷ 27 ∷ []) ∷ (46 ∷ 47 ∷ 15 ∷ 25 ∷ 4294967295 ∷ 4294967294 ∷ []) ∷ (40 ∷ 48 ∷ 0 ∷ []) ∷ (45 ∷ 48 ∷ 0
    ∷ []) ∷ (47 ∷ 48 ∷ 0 ∷ []) ∷ (48 ∷ 49 ∷ 14 ∷ 0 ∷ 25 ∷ 5 ∷ 0 ∷ 5 ∷ 25 ∷ []) ∷ (49 ∷ 50 ∷ 7 ∷ 28 ∷ 0 ∷ []) ∷ (50 ∷
    51 ∷ 1 ∷ 29 ∷ 6 ∷ []) ∷ (51 ∷ 52 ∷ 7 ∷ 30 ∷ 5 ∷ []) ∷ (52 ∷ 53 ∷ 14 ∷ 30 ∷ 28 ∷ 20 ∷ 5 ∷ 5 ∷ 42 ∷ []) ∷ (53 ∷ 54
    ∷ 7 ∷ 31 ∷ 6 ∷ []) ∷ (54 ∷ 55 ∷ 14 ∷ 31 ∷ 29 ∷ 5 ∷ 6 ∷ 5 ∷ 42 ∷ []) ∷ (55 ∷ 56 ∷ 7 ∷ 32 ∷ 5 ∷ []) ∷ (56 ∷ 57 ∷
    12 ∷ 33 ∷ 32 ∷ 20 ∷ 3 ∷ 24 ∷ []) ∷ (57 ∷ 58 ∷ 11 ∷ 34 ∷ 33 ∷ 3 ∷ 3 ∷ 23 ∷ []) ∷ (58 ∷ 59 ∷ 7 ∷ 35 ∷ 6 ∷ []) ∷
    (59 ∷ 60 ∷ 12 ∷ 36 ∷ 35 ∷ 5 ∷ 3 ∷ 26 ∷ []) ∷ (60 ∷ 61 ∷ 14 ∷ 34 ∷ 36 ∷ 5 ∷ 1000 ∷ 3 ∷ 25 ∷ []) ∷ (61 ∷ 62 ∷ 0 ∷
    []) ∷ (62 ∷ 63 ∷ 7 ∷ 37 ∷ 0 ∷ []) ∷ (63 ∷ 64 ∷ 1 ∷ 38 ∷ 8 ∷ []) ∷ (64 ∷ 65 ∷ 7 ∷ 39 ∷ 7 ∷ []) ∷ (65 ∷ 66 ∷ 14 ∷
    39 ∷ 38 ∷ 5 ∷ 7 ∷ 5 ∷ 54 ∷ []) ∷ (66 ∷ 67 ∷ 7 ∷ 40 ∷ 0 ∷ []) ∷ (67 ∷ 68 ∷ 7 ∷ 41 ∷ 7 ∷ []) ∷ (68 ∷ 69 ∷ 12 ∷ 42
    ∷ 41 ∷ 5 ∷ 4 ∷ 19 ∷ []) ∷ (69 ∷ 70 ∷ 14 ∷ 40 ∷ 42 ∷ 5 ∷ 0 ∷ 4 ∷ 18 ∷ []) ∷ (70 ∷ 71 ∷ 15 ∷ 43 ∷ 4294967295 ∷
    4294967294 ∷ []) ∷ (71 ∷ 72 ∷ 0 ∷ []) ∷ (72 ∷ 73 ∷ 14 ∷ 37 ∷ 43 ∷ 5 ∷ 0 ∷ 5 ∷ 53 ∷ []) ∷ []
unfolding layout_of call_tree cell_count abstract_count type_cells type_abstracts laid items at name working_type right_type values_fold
edges = refl

nodes : (built laid 0).nodes ≡ 74
unfolding layout_of call_tree cell_count abstract_count type_cells type_abstracts laid items at name working_type right_type values_fold
nodes = refl

-- ## What lowering needs of it

below_or : (n : ℕ) (xs : List ℕ) → 0 < n → EachNode (λ x. x < n) xs → (i : ℕ) → get_or xs i 0 < n
below_or n [] l h i = l
below_or n (x ∷ xs) l h zero = h.0
below_or n (x ∷ xs) l h (suc i) = below_or n xs l h.1 i

abbrev EachList : ℕ → List (List ℕ) → Type 0
EachList n [] = Unit {0}
EachList n (xs ∷ xss) = EachNode (λ x. x < n) xs × EachList n xss

below_list : (n : ℕ) (xss : List (List ℕ)) → 0 < n → EachList n xss → (i j : ℕ) → get_or (get_or xss i []) j 0 < n
below_list n [] l h i j = l
below_list n (xs ∷ xss) l h zero j = below_or n xs l h.0 j
below_list n (xs ∷ xss) l h (suc i) j = below_list n xss l h.1 i j

bodies : (path : ℕ) → path < length laid.paths
    → IsBody laid path (is_value_type (result_type laid (function_at laid path))) (function_at laid path).body
unfolding layout_of call_tree cell_count abstract_count type_cells type_abstracts laid items at name working_type right_type values_fold
bodies zero l = (
  (tt, ((((tt, refl), ((((tt, refl), ((tt, refl), tt)), refl), tt))), refl)),
  (((tt, refl), ((tt, refl), tt)), ((tt, (((tt, refl), tt), refl)), tt)),
)
bodies (suc zero) l = (((((tt, refl), (tt, refl)), refl), (tt, refl)), ((tt, refl), tt))
bodies (suc (suc zero)) l = (((((tt, refl), (tt, refl)), refl), (tt, refl)), ((tt, refl), tt))
bodies (suc (suc (suc zero))) l = (((tt, refl), (tt, refl)), tt)
bodies (suc (suc (suc (suc zero)))) l = ((tt, (tt, refl)), tt)
bodies (suc (suc (suc (suc (suc path))))) l = absurd (omega (arith, l))

lowerable : IsLowerable laid
unfolding layout_of call_tree cell_count abstract_count type_cells type_abstracts laid items at name working_type right_type values_fold
lowerable = record {
  first = λ body. below_or 5 laid.first_paths (omega arith) (omega arith, tt) body;
  inside = λ path site. below_list 5 laid.callees (omega arith)
      ((omega arith, (omega arith, (omega arith, (omega arith, tt)))), (tt, (tt, (tt, (tt, tt))))) path site;
  bodies = bodies;
}
