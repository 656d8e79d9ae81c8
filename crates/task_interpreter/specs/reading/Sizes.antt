-- Sizes of trees: what remains to be gone through.
use Rattle.std.specs.Prelude.{ℕ, ◌+◌, ◌*◌, max, List, [], ◌∷◌, Option, Some, None}
use Rattle.tm_typed.specs.TypedTrees.{RvalueTree, a_constant, a_folded, a_null, a_load, an_address}
use Rattle.tm_typed.specs.TypedTrees.{a_structure}
use Rattle.tm_typed.specs.TypedTrees.{the_same, a_unary, a_binary, a_comparison_of_pointers, a_move, a_not}
use Rattle.tm_typed.specs.TypedTrees.{an_and}
use Rattle.tm_typed.specs.TypedTrees.{an_or, a_choice, an_assignment, a_compound, a_compound_move}
use Rattle.tm_typed.specs.TypedTrees.{a_unit_step}
use Rattle.tm_typed.specs.TypedTrees.{a_pointer_step, a_function_call, an_input_value, a_probe, a_comma}
use Rattle.tm_typed.specs.TypedTrees.{a_conversion}
use Rattle.tm_typed.specs.TypedTrees.{a_discard, LvalueTree, an_object, an_element, a_pointed_element}
use Rattle.tm_typed.specs.TypedTrees.{a_pointed}
use Rattle.tm_typed.specs.TypedTrees.{an_arrow, a_part, RvalueTrees, no_rvalues, and_rvalue}
use Rattle.tm_typed.specs.TypedStatements.{GivenTree, LocalInitialiserTree, LocalTree, TypedTree, evaluates}
use Rattle.tm_typed.specs.TypedStatements.{declares}
use Rattle.tm_typed.specs.TypedStatements.{runs_block, branches, branches_else, loops_while, loops_do}
use Rattle.tm_typed.specs.TypedStatements.{loops_for}
use Rattle.tm_typed.specs.TypedStatements.{selects, breaks, continues, returns, locks, unlocks, yields}
use Rattle.tm_typed.specs.TypedStatements.{TypedTrees}
use Rattle.tm_typed.specs.TypedStatements.{no_statements, and_statement, TypedCase, a_label, a_default_label}
use Rattle.tm_typed.specs.TypedStatements.{a_labelled_step, TypedCases, no_typed_cases, and_typed_case}
use Rattle.tm_typed.specs.Functions.{TypedBodyTree}
use Rattle.tm_typed.specs.Files.{TypedFunctionTree}
use Rattle.tm_laid.specs.Layouts.{LaidTree}

abbrev mutual
  pub rvalue_size : RvalueTree → ℕ
  rvalue_size (a_constant t z p) = 4
  rvalue_size (a_folded z e) = 4 + rvalue_size e
  rvalue_size (a_null p) = 4
  rvalue_size (a_load s v l) = 4 + lvalue_size l
  rvalue_size (an_address l p) = 4 + lvalue_size l
  rvalue_size (a_structure l) = 4 + lvalue_size l
  rvalue_size (the_same e p) = 4 + rvalue_size e
  rvalue_size (a_unary o t e p) = 4 + rvalue_size e
  rvalue_size (a_binary o t l r p) = 4 + rvalue_size l + rvalue_size r
  rvalue_size (a_comparison_of_pointers q l r p) = 4 + rvalue_size l + rvalue_size r
  rvalue_size (a_move m c f e i p) = 4 + rvalue_size e + rvalue_size i
  rvalue_size (a_not e p) = 4 + rvalue_size e
  rvalue_size (an_and l r p) = 4 + rvalue_size l + rvalue_size r
  rvalue_size (an_or l r p) = 4 + rvalue_size l + rvalue_size r
  rvalue_size (a_choice c x y p) = 4 + rvalue_size c + rvalue_size x + rvalue_size y
  rvalue_size (an_assignment s l e p) = 4 + lvalue_size l + rvalue_size e
  rvalue_size (a_compound o c t v l e p) = 4 + lvalue_size l + rvalue_size e
  rvalue_size (a_compound_move m c k l e p) = 4 + lvalue_size l + rvalue_size e
  rvalue_size (a_unit_step s c t v l p) = 4 + lvalue_size l
  rvalue_size (a_pointer_step s c k l p) = 4 + lvalue_size l
  rvalue_size (a_function_call f s es p) = 8 + rvalues_size es
  rvalue_size (an_input_value low high p) = 4
  rvalue_size (a_probe m p) = 4
  rvalue_size (a_comma l r p) = 4 + rvalue_size l + rvalue_size r
  rvalue_size (a_conversion f t e p) = 4 + rvalue_size e
  rvalue_size (a_discard e p) = 4 + rvalue_size e

  pub lvalue_size : LvalueTree → ℕ
  lvalue_size (an_object o p) = 4
  lvalue_size (an_element l i n c p) = 4 + lvalue_size l + rvalue_size i
  lvalue_size (a_pointed_element e i c t p) = 4 + rvalue_size e + rvalue_size i
  lvalue_size (a_pointed e t p) = 4 + rvalue_size e
  lvalue_size (an_arrow e t c p) = 4 + rvalue_size e
  lvalue_size (a_part l c p) = 4 + lvalue_size l

  pub rvalues_size : RvalueTrees → ℕ
  rvalues_size no_rvalues = 0
  rvalues_size (and_rvalue e es) = rvalue_size e + rvalues_size es

abbrev pub optional_size : Option RvalueTree → ℕ
optional_size None = 0
optional_size (Some e) = 4 + rvalue_size e

abbrev pub given_size : List GivenTree → ℕ
given_size [] = 0
given_size (g ∷ gs) = rvalue_size g.value + given_size gs

abbrev pub initialiser_size : Option LocalInitialiserTree → ℕ
initialiser_size None = 0
initialiser_size (Some i) = 6 + given_size i.given

abbrev pub locals_size : List LocalTree → ℕ
locals_size [] = 0
locals_size (l ∷ ls) = initialiser_size l.initialiser + locals_size ls

abbrev mutual
  pub statement_size : TypedTree → ℕ
  statement_size (evaluates e) = 4 + optional_size e
  statement_size (declares ls) = 4 + locals_size ls
  statement_size (runs_block ss) = 4 + statements_size ss
  statement_size (branches c s) = 4 + rvalue_size c + statement_size s
  statement_size (branches_else c s t) = 4 + rvalue_size c + statement_size s + statement_size t
  statement_size (loops_while c s) = 20 + rvalue_size c + statement_size s
  statement_size (loops_do s c) = 20 + statement_size s + rvalue_size c
  statement_size (loops_for first c step s) =
      20 + statement_size first + optional_size c + optional_size step + statement_size s
  statement_size (selects t e cs) = 8 + rvalue_size e + cases_size cs
  statement_size breaks = 4
  statement_size continues = 4
  statement_size (returns e) = 4 + optional_size e
  statement_size (locks m p) = 4
  statement_size (unlocks m p) = 4
  statement_size yields = 4

  pub statements_size : TypedTrees → ℕ
  statements_size no_statements = 0
  statements_size (and_statement s ss) = statement_size s + statements_size ss

  pub case_size : TypedCase → ℕ
  case_size (a_label z p) = 4
  case_size (a_default_label p) = 4
  case_size (a_labelled_step s) = 4 + statement_size s

  pub cases_size : TypedCases → ℕ
  cases_size no_typed_cases = 0
  cases_size (and_typed_case c cs) = case_size c + cases_size cs

abbrev pub code_size : Option TypedBodyTree → ℕ
code_size None = 0
code_size (Some body) = statements_size body.statements

-- the largest body
abbrev pub largest : List TypedFunctionTree → ℕ
largest [] = 0
largest (f ∷ fs) = max (code_size f.body) (largest fs)

-- all that lies below calls of this depth
unfoldable pub below_calls : LaidTree → ℕ → ℕ
below_calls laid depth = depth * (8 + largest laid.file.functions)
