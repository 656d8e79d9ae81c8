-- In each `for` of a typed statement an expression or a declaration stands first.
use Rattle.std.specs.Prelude.{Bool, true, false, not, ◌||◌, Option, Some, None, Ok}
use Rattle.call_graph.specs.tm_cint.declared.int_types.IntType.{IntType}
use Rattle.call_graph.specs.tm_terms.declared.places.Place.{Place}
use Rattle.call_graph.specs.tm_terms.declared.refusals.Kind.TheVariants as Kinds
use Rattle.call_graph.specs.tm_terms.ExprTrees.{Tree}
use Rattle.call_graph.specs.tm_trees.FileTrees.{ForFirstTree, by_expression, by_declaration, StatementTree, a_block}
use Rattle.call_graph.specs.tm_trees.FileTrees.{a_value}
use Rattle.call_graph.specs.tm_trees.FileTrees.{an_if, an_if_else, a_while, a_do, a_for, a_switch, a_break, a_continue}
use Rattle.call_graph.specs.tm_trees.FileTrees.{a_return}
use Rattle.call_graph.specs.tm_trees.FileTrees.{a_lock}
use Rattle.call_graph.specs.tm_trees.FileTrees.{an_unlock, a_yield, PartTree, a_local, a_step, PartTrees, no_parts}
use Rattle.call_graph.specs.tm_trees.FileTrees.{and_part}
use Rattle.call_graph.specs.tm_trees.FileTrees.{CaseTree, a_case, a_default, a_case_step, CaseTrees, no_cases, and_case}
use Rattle.call_graph.specs.tm_typed.Scopes.{named, ctype_of}
use Rattle.call_graph.specs.tm_typed.TypeNames.{is_void}
use Rattle.call_graph.specs.tm_typed.TypedTrees.{RvalueTree}
use Rattle.call_graph.specs.tm_typed.Refusals.{then_with, row, row_unless}
use Rattle.call_graph.specs.tm_typed.Operands.{valued, given, is_structure}
use Rattle.call_graph.specs.tm_typed.States.{State}
use Rattle.call_graph.specs.tm_typed.Evaluation.{typed_in}
use Rattle.call_graph.specs.tm_typed.Declarations.{local_declaration}
use Rattle.call_graph.specs.tm_typed.WellTyped.{OnAnswer}
use Rattle.call_graph.specs.tm_typed.TypedStatements.{TypedTree, evaluates, declares, runs_block, branches}
use Rattle.call_graph.specs.tm_typed.TypedStatements.{branches_else}
use Rattle.call_graph.specs.tm_typed.TypedStatements.{loops_while, loops_do, loops_for, selects, breaks, continues}
use Rattle.call_graph.specs.tm_typed.TypedStatements.{returns, locks}
use Rattle.call_graph.specs.tm_typed.TypedStatements.{unlocks, yields, TypedTrees, no_statements, and_statement}
use Rattle.call_graph.specs.tm_typed.TypedStatements.{TypedCase}
use Rattle.call_graph.specs.tm_typed.TypedStatements.{a_label, a_default_label, a_labelled_step, TypedCases}
use Rattle.call_graph.specs.tm_typed.TypedStatements.{no_typed_cases}
use Rattle.call_graph.specs.tm_typed.TypedStatements.{and_typed_case}
use Rattle.call_graph.specs.tm_typed.StatementRules.{Around, looping, switching, Labels, no_labels, with_label}
use Rattle.call_graph.specs.tm_typed.StatementRules.{default_rules}
use Rattle.call_graph.specs.tm_typed.StatementRules.{break_rules, continue_rules, return_rules, return_value_rules}
use Rattle.call_graph.specs.tm_typed.StatementRules.{mutex_rules}
use Rattle.call_graph.specs.tm_typed.StatementTyping.{condition_in, optional_value_in, optional_condition_in, return_in}
use Rattle.call_graph.specs.tm_typed.StatementTyping.{selector_in, label_in, first_in, enter, leave, statement_in}
use Rattle.call_graph.specs.tm_typed.StatementTyping.{part_in}
use Rattle.call_graph.specs.tm_typed.StatementTyping.{parts_in, case_in, cases_in}
use Rattle.typed_file_laws.proofs.low.typing_laws.Steps.{then_on, then_any}

abbrev pub IsFirst : TypedTree → Type 0
IsFirst (evaluates e) = Unit {0}
IsFirst (declares ls) = Unit {0}
IsFirst _ = ⊥

abbrev mutual
  pub HaveFirsts : TypedTree → Type 0
  HaveFirsts (evaluates e) = Unit {0}
  HaveFirsts (declares ls) = Unit {0}
  HaveFirsts (runs_block ss) = HaveAllFirsts ss
  HaveFirsts (branches e s) = HaveFirsts s
  HaveFirsts (branches_else e s t) = HaveFirsts s × HaveFirsts t
  HaveFirsts (loops_while e s) = HaveFirsts s
  HaveFirsts (loops_do s e) = HaveFirsts s
  HaveFirsts (loops_for f c e s) = IsFirst f × HaveFirsts s
  HaveFirsts (selects t e cs) = HaveCaseFirsts cs
  HaveFirsts breaks = Unit {0}
  HaveFirsts continues = Unit {0}
  HaveFirsts (returns e) = Unit {0}
  HaveFirsts (locks m p) = Unit {0}
  HaveFirsts (unlocks m p) = Unit {0}
  HaveFirsts yields = Unit {0}

  pub HaveAllFirsts : TypedTrees → Type 0
  HaveAllFirsts no_statements = Unit {0}
  HaveAllFirsts (and_statement s ss) = HaveFirsts s × HaveAllFirsts ss

  pub HaveCaseFirsts : TypedCases → Type 0
  HaveCaseFirsts no_typed_cases = Unit {0}
  HaveCaseFirsts (and_typed_case c cs) = HasCaseFirsts c × HaveCaseFirsts cs

  pub HasCaseFirsts : TypedCase → Type 0
  HasCaseFirsts (a_label z p) = Unit {0}
  HasCaseFirsts (a_default_label p) = Unit {0}
  HasCaseFirsts (a_labelled_step s) = HaveFirsts s

abbrev Found : TypedTree × State → Type 0
Found a = HaveFirsts a.0

abbrev AllFound : TypedTrees × State → Type 0
AllFound a = HaveAllFirsts a.0

abbrev CaseFound : TypedCase × Labels × State → Type 0
CaseFound a = HasCaseFirsts a.0

abbrev CasesFound : TypedCases × State → Type 0
CasesFound a = HaveCaseFirsts a.0

-- ## Jumps

plain_jump : (p : Place) (b : Bool) (r : TypedTree) → HaveFirsts r → OnAnswer HaveFirsts (row b Kinds.Mismatch p (Ok r))
plain_jump p true r h = tt
plain_jump p false r h = h

given_return : (p : Place) (e : Option RvalueTree)
    → OnAnswer HaveFirsts (row_unless e Kinds.Mismatch p (λ x. Ok (returns (Some x))))
given_return p None = tt
given_return p (Some e) = tt

value_return : (p : Place) (b : Bool) (e : Option RvalueTree)
    → OnAnswer HaveFirsts (row b Kinds.Unsupported p (row_unless e Kinds.Mismatch p (λ x. Ok (returns (Some x)))))
value_return p true e = tt
value_return p false e = given_return p e

return_found : (s : State) (around : Around) (t : Option Tree) (p : Place)
    → OnAnswer Found (return_in s around t p)
return_found s around None p =
    then_on HaveFirsts Found (return_rules s.scope around.result p) (λ r. Ok (r, s))
    (plain_jump p (not (is_void (ctype_of s.scope around.result))) (returns None) tt) (λ r h. h)
return_found s around (Some t) p =
    then_any Found (typed_in s t)
    (λ a. then_with (return_value_rules a.1.scope around.result p (valued a.1.scope a.0)) (λ r. Ok (r, a.1))) (λ a.
    then_on HaveFirsts Found (return_value_rules a.1.scope around.result p (valued a.1.scope a.0)) (λ r. Ok (r, a.1))
    (value_return p (is_structure (valued a.1.scope a.0).sort)
    (given a.1.scope (valued a.1.scope a.0) around.result)) (λ r h. h))

-- ## Statements

abbrev FirstFound : TypedTree × State → Type 0
FirstFound a = IsFirst a.0

first_found : (s : State) (f : ForFirstTree) → OnAnswer FirstFound (first_in s f)
first_found s (by_expression t) =
    then_any FirstFound (optional_value_in s t) (λ a. Ok (evaluates a.0, a.1)) (λ a. tt)
first_found s (by_declaration d) =
    then_any FirstFound (local_declaration s d) (λ a. Ok (declares a.0, a.1)) (λ a. tt)

mutual
  pub found : (s : State) (around : Around) (source : StatementTree) → OnAnswer Found (statement_in s around source)
  found s around (a_block parts) =
      then_on AllFound Found (parts_in (enter s) around parts) (λ b. Ok (runs_block b.0, leave s b.1))
      (all_found (enter s) around parts) (λ b h. h)
  found s around (a_value t) =
      then_any Found (optional_value_in s t) (λ a. Ok (evaluates a.0, a.1)) (λ a. tt)
  found s around (an_if c t) =
      then_any Found (condition_in s c)
      (λ a. then_with (statement_in a.1 around t) (λ b. Ok (branches a.0 b.0, b.1))) (λ a.
      then_on Found Found (statement_in a.1 around t) (λ b. Ok (branches a.0 b.0, b.1)) (found a.1 around t) (λ b h. h))
  found s around (an_if_else c t u) =
      then_any Found (condition_in s c)
      (λ a. then_with (statement_in a.1 around t) (λ b.
      then_with (statement_in b.1 around u) (λ d. Ok (branches_else a.0 b.0 d.0, d.1)))) (λ a.
      then_on Found Found (statement_in a.1 around t)
      (λ b. then_with (statement_in b.1 around u) (λ d. Ok (branches_else a.0 b.0 d.0, d.1)))
      (found a.1 around t) (λ b h.
      then_on Found Found (statement_in b.1 around u) (λ d. Ok (branches_else a.0 b.0 d.0, d.1))
      (found b.1 around u) (λ d i. (h, i))))
  found s around (a_while c t) =
      then_any Found (condition_in s c)
      (λ a. then_with (statement_in a.1 (looping around) t) (λ b. Ok (loops_while a.0 b.0, b.1))) (λ a.
      then_on Found Found (statement_in a.1 (looping around) t) (λ b. Ok (loops_while a.0 b.0, b.1))
      (found a.1 (looping around) t) (λ b h. h))
  found s around (a_do t c) =
      then_on Found Found (statement_in s (looping around) t)
      (λ a. then_with (condition_in a.1 c) (λ b. Ok (loops_do a.0 b.0, b.1))) (found s (looping around) t) (λ a h.
      then_any Found (condition_in a.1 c) (λ b. Ok (loops_do a.0 b.0, b.1)) (λ b. h))
  found s around (a_for f c step t) =
      then_on FirstFound Found (first_in (enter s) f)
      (λ a. then_with (optional_condition_in a.1 c) (λ b.
      then_with (optional_value_in b.1 step) (λ d.
      then_with (statement_in d.1 (looping around) t) (λ e. Ok (loops_for a.0 b.0 d.0 e.0, leave s e.1)))))
      (first_found (enter s) f) (λ a h.
      then_any Found (optional_condition_in a.1 c)
      (λ b. then_with (optional_value_in b.1 step) (λ d.
      then_with (statement_in d.1 (looping around) t) (λ e. Ok (loops_for a.0 b.0 d.0 e.0, leave s e.1)))) (λ b.
      then_any Found (optional_value_in b.1 step)
      (λ d. then_with (statement_in d.1 (looping around) t) (λ e. Ok (loops_for a.0 b.0 d.0 e.0, leave s e.1))) (λ d.
      then_on Found Found (statement_in d.1 (looping around) t)
      (λ e. Ok (loops_for a.0 b.0 d.0 e.0, leave s e.1)) (found d.1 (looping around) t) (λ e i. (h, i)))))
  found s around (a_switch t cases) =
      then_any Found (selector_in s t)
      (λ a. then_with (cases_in (enter a.1) (switching around) a.0.works_in no_labels cases)
      (λ b. Ok (selects a.0.works_in a.0.value b.0, leave a.1 b.1))) (λ a.
      then_on CasesFound Found (cases_in (enter a.1) (switching around) a.0.works_in no_labels cases)
      (λ b. Ok (selects a.0.works_in a.0.value b.0, leave a.1 b.1))
      (cases_found (enter a.1) (switching around) a.0.works_in no_labels cases) (λ b h. h))
  found s around (a_break p) =
      then_on HaveFirsts Found (break_rules around p) (λ r. Ok (r, s))
      (plain_jump p (not (around.in_loop || around.in_switch)) breaks tt) (λ r h. h)
  found s around (a_continue p) =
      then_on HaveFirsts Found (continue_rules around p) (λ r. Ok (r, s))
      (plain_jump p (not around.in_loop) continues tt) (λ r h. h)
  found s around (a_return t p) = return_found s around t p
  found s around (a_lock m q p) =
      then_any Found (mutex_rules q (named s.scope m)) (λ n. Ok (locks n p, s)) (λ n. tt)
  found s around (an_unlock m q p) =
      then_any Found (mutex_rules q (named s.scope m)) (λ n. Ok (unlocks n p, s)) (λ n. tt)
  found s around (a_yield p) = tt

  part_found : (s : State) (around : Around) (part : PartTree) → OnAnswer Found (part_in s around part)
  part_found s around (a_local d) =
      then_any Found (local_declaration s d) (λ a. Ok (declares a.0, a.1)) (λ a. tt)
  part_found s around (a_step t) = found s around t

  pub all_found : (s : State) (around : Around) (parts : PartTrees) → OnAnswer AllFound (parts_in s around parts)
  all_found s around no_parts = tt
  all_found s around (and_part part parts) =
      then_on Found AllFound (part_in s around part)
      (λ a. then_with (parts_in a.1 around parts) (λ b. Ok (and_statement a.0 b.0, b.1))) (part_found s around part)
      (λ a h. then_on AllFound AllFound (parts_in a.1 around parts) (λ b. Ok (and_statement a.0 b.0, b.1))
      (all_found a.1 around parts) (λ b i. (h, i)))

  case_found : (s : State) (around : Around) (t : IntType) (labels : Labels) (part : CaseTree)
      → OnAnswer CaseFound (case_in s around t labels part)
  case_found s around t labels (a_case e p) =
      then_any CaseFound (label_in s t labels.values e p) (λ a. Ok (a_label a.0 p, with_label labels a.0, a.1))
      (λ a. tt)
  case_found s around t labels (a_default p) =
      then_any CaseFound (default_rules labels p) (λ l. Ok (a_default_label p, l, s)) (λ l. tt)
  case_found s around t labels (a_case_step u) =
      then_on Found CaseFound (statement_in s around u) (λ a. Ok (a_labelled_step a.0, labels, a.1))
      (found s around u) (λ a h. h)

  cases_found : (s : State) (around : Around) (t : IntType) (labels : Labels) (cases : CaseTrees)
      → OnAnswer CasesFound (cases_in s around t labels cases)
  cases_found s around t labels no_cases = tt
  cases_found s around t labels (and_case part cases) =
      then_on CaseFound CasesFound (case_in s around t labels part)
      (λ a. then_with (cases_in a.2 around t a.1 cases) (λ b. Ok (and_typed_case a.0 b.0, b.1)))
      (case_found s around t labels part) (λ a h.
      then_on CasesFound CasesFound (cases_in a.2 around t a.1 cases) (λ b. Ok (and_typed_case a.0 b.0, b.1))
      (cases_found a.2 around t a.1 cases) (λ b i. (h, i)))
