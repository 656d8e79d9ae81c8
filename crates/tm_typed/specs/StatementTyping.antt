-- The typing of statements: the parts of each in the order of the text, and its condition before all others.
use Rattle.std.specs.Prelude.{ℤ, false, List, [], ◌∷◌, ◌++◌, Option, Some, None, Result, Ok}
use Rattle.tm_trees.specs.tm_cint.declared.int_types.IntType.{IntType}
use Rattle.tm_trees.specs.tm_terms.declared.places.Place.{Place}
use Rattle.tm_trees.specs.tm_terms.declared.refusals.Refusal.{Refusal}
use Rattle.tm_trees.specs.tm_terms.ExprTrees.{Tree, place_of}
use Rattle.tm_trees.specs.FileTrees.{ForFirstTree, by_expression, by_declaration, StatementTree, a_block, a_value}
use Rattle.tm_trees.specs.FileTrees.{an_if, an_if_else, a_while, a_do, a_for, a_switch, a_break, a_continue, a_return}
use Rattle.tm_trees.specs.FileTrees.{a_lock, an_unlock, a_yield, PartTree, a_local, a_step, PartTrees, no_parts}
use Rattle.tm_trees.specs.FileTrees.{and_part, CaseTree, a_case, a_default, a_case_step, CaseTrees, no_cases, and_case}
use Rattle.tm_typed.specs.Scopes.{named}
use Rattle.tm_typed.specs.TypedTrees.{RvalueTree}
use Rattle.tm_typed.specs.Refusals.{then_with}
use Rattle.tm_typed.specs.Operands.{valued}
use Rattle.tm_typed.specs.States.{State, in_scope, entered, left}
use Rattle.tm_typed.specs.Evaluation.{typed_in, folded_value}
use Rattle.tm_typed.specs.Declarations.{local_declaration}
use Rattle.tm_typed.specs.TypedStatements.{TypedTree, evaluates, declares, runs_block, branches, branches_else}
use Rattle.tm_typed.specs.TypedStatements.{loops_while, loops_do, loops_for, selects, locks, unlocks, yields}
use Rattle.tm_typed.specs.TypedStatements.{TypedTrees, no_statements, and_statement, a_label, a_default_label}
use Rattle.tm_typed.specs.TypedStatements.{a_labelled_step, TypedCase, TypedCases, no_typed_cases, and_typed_case}
use Rattle.tm_typed.specs.StatementRules.{Around, looping, switching, condition_rules, Selector, selector_rules, Labels}
use Rattle.tm_typed.specs.StatementRules.{no_labels, with_label, label_rules, default_rules, break_rules}
use Rattle.tm_typed.specs.StatementRules.{continue_rules, return_rules, return_value_rules, mutex_rules}

-- ## Expressions as parts of statements

-- an expression for its value
abbrev pub value_in : State → Tree → Result (RvalueTree × State) Refusal
value_in s t = then_with (typed_in s t) (λ a. Ok ((valued a.1.scope a.0).value, a.1))

abbrev pub condition_in : State → Tree → Result (RvalueTree × State) Refusal
condition_in s t =
    then_with (typed_in s t) (λ a.
    then_with (condition_rules (place_of t) (valued a.1.scope a.0)) (λ c. Ok (c, a.1)))

abbrev pub optional_value_in : State → Option Tree → Result (Option RvalueTree × State) Refusal
optional_value_in s None = Ok (None, s)
optional_value_in s (Some t) = then_with (value_in s t) (λ a. Ok (Some a.0, a.1))

abbrev pub optional_condition_in : State → Option Tree → Result (Option RvalueTree × State) Refusal
optional_condition_in s None = Ok (None, s)
optional_condition_in s (Some t) = then_with (condition_in s t) (λ a. Ok (Some a.0, a.1))

-- `return e;` and `return;`
abbrev pub return_in : State → Around → Option Tree → Place → Result (TypedTree × State) Refusal
return_in s around None p = then_with (return_rules s.scope around.result p) (λ r. Ok (r, s))
return_in s around (Some t) p =
    then_with (typed_in s t) (λ a.
    then_with (return_value_rules a.1.scope around.result p (valued a.1.scope a.0)) (λ r. Ok (r, a.1)))

-- the expression of a `switch`
abbrev pub selector_in : State → Tree → Result (Selector × State) Refusal
selector_in s t =
    then_with (typed_in s t) (λ a. let v = valued a.1.scope a.0 in
    then_with (selector_rules (place_of t) v v.sort) (λ x. Ok (x, a.1)))

-- `case e:` behind these labels
abbrev pub label_in : State → IntType → List ℤ → Tree → Place → Result (ℤ × State) Refusal
label_in s t labels e word =
    then_with (typed_in s e) (λ a.
    then_with (label_rules t labels word (place_of e) (folded_value a.0)) (λ z.
    Ok (z, record a.1 { labels = a.1.labels ++ z ∷ [] })))

-- what a `for` does first
abbrev pub first_in : State → ForFirstTree → Result (TypedTree × State) Refusal
first_in s (by_expression t) = then_with (optional_value_in s t) (λ a. Ok (evaluates a.0, a.1))
first_in s (by_declaration d) = then_with (local_declaration s d) (λ a. Ok (declares a.0, a.1))

-- ## Blocks: a block, a `for`, and the block of a `switch` are scopes of their own (C99 6.2.1)

abbrev pub enter : State → State
enter s = in_scope s (entered s.scope)

abbrev pub leave : State → State → State
leave before s = in_scope s (left before.scope s.scope)

-- ## Statements

abbrev mutual
  -- a statement that stands there, or its first refusal
  pub statement_in : State → Around → StatementTree → Result (TypedTree × State) Refusal
  statement_in s around (a_block parts) =
      then_with (parts_in (enter s) around parts) (λ b. Ok (runs_block b.0, leave s b.1))
  statement_in s around (a_value t) = then_with (optional_value_in s t) (λ a. Ok (evaluates a.0, a.1))
  statement_in s around (an_if c t) =
      then_with (condition_in s c) (λ a.
      then_with (statement_in a.1 around t) (λ b. Ok (branches a.0 b.0, b.1)))
  statement_in s around (an_if_else c t u) =
      then_with (condition_in s c) (λ a.
      then_with (statement_in a.1 around t) (λ b.
      then_with (statement_in b.1 around u) (λ d. Ok (branches_else a.0 b.0 d.0, d.1))))
  statement_in s around (a_while c t) =
      then_with (condition_in s c) (λ a.
      then_with (statement_in a.1 (looping around) t) (λ b. Ok (loops_while a.0 b.0, b.1)))
  statement_in s around (a_do t c) =
      then_with (statement_in s (looping around) t) (λ a.
      then_with (condition_in a.1 c) (λ b. Ok (loops_do a.0 b.0, b.1)))
  statement_in s around (a_for first c step t) =
      then_with (first_in (enter s) first) (λ a.
      then_with (optional_condition_in a.1 c) (λ b.
      then_with (optional_value_in b.1 step) (λ d.
      then_with (statement_in d.1 (looping around) t) (λ e. Ok (loops_for a.0 b.0 d.0 e.0, leave s e.1)))))
  statement_in s around (a_switch t cases) =
      then_with (selector_in s t) (λ a.
      then_with (cases_in (enter a.1) (switching around) a.0.works_in no_labels cases)
      (λ b. Ok (selects a.0.works_in a.0.value b.0, leave a.1 b.1)))
  statement_in s around (a_break p) = then_with (break_rules around p) (λ r. Ok (r, s))
  statement_in s around (a_continue p) = then_with (continue_rules around p) (λ r. Ok (r, s))
  statement_in s around (a_return t p) = return_in s around t p
  statement_in s around (a_lock m q p) = then_with (mutex_rules q (named s.scope m)) (λ n. Ok (locks n p, s))
  statement_in s around (an_unlock m q p) = then_with (mutex_rules q (named s.scope m)) (λ n. Ok (unlocks n p, s))
  statement_in s around (a_yield p) = Ok (yields, s)

  -- a part of a block
  pub part_in : State → Around → PartTree → Result (TypedTree × State) Refusal
  part_in s around (a_local d) = then_with (local_declaration s d) (λ a. Ok (declares a.0, a.1))
  part_in s around (a_step t) = statement_in s around t

  pub parts_in : State → Around → PartTrees → Result (TypedTrees × State) Refusal
  parts_in s around no_parts = Ok (no_statements, s)
  parts_in s around (and_part part parts) =
      then_with (part_in s around part) (λ a.
      then_with (parts_in a.1 around parts) (λ b. Ok (and_statement a.0 b.0, b.1)))

  -- a part of a `switch` that compares in the type t, behind these labels
  pub case_in : State → Around → IntType → Labels → CaseTree → Result (TypedCase × Labels × State) Refusal
  case_in s around t labels (a_case e p) =
      then_with (label_in s t labels.values e p) (λ a. Ok (a_label a.0 p, with_label labels a.0, a.1))
  case_in s around t labels (a_default p) =
      then_with (default_rules labels p) (λ l. Ok (a_default_label p, l, s))
  case_in s around t labels (a_case_step u) =
      then_with (statement_in s around u) (λ a. Ok (a_labelled_step a.0, labels, a.1))

  pub cases_in : State → Around → IntType → Labels → CaseTrees → Result (TypedCases × State) Refusal
  cases_in s around t labels no_cases = Ok (no_typed_cases, s)
  cases_in s around t labels (and_case part cases) =
      then_with (case_in s around t labels part) (λ a.
      then_with (cases_in a.2 around t a.1 cases) (λ b. Ok (and_typed_case a.0 b.0, b.1)))
