-- Jumps stand where they may.
use Rattle.std.proofs.Common.{◌≡◌, refl}
use Rattle.std.specs.Prelude.{Bool, true, false, not, ◌||◌, Option, Some, None, Result, Ok, Err}
use Rattle.tm_typed.specs.tm_cint.declared.int_types.IntType.{IntType}
use Rattle.tm_typed.specs.tm_terms.declared.places.Place.{Place}
use Rattle.tm_typed.specs.tm_terms.declared.refusals.Kind.TheVariants as Kinds
use Rattle.tm_typed.specs.tm_terms.declared.refusals.Refusal.{Refusal}
use Rattle.tm_typed.specs.tm_terms.ExprTrees.{Tree}
use Rattle.tm_typed.specs.tm_trees.FileTrees.{ForFirstTree, by_expression, by_declaration, StatementTree, a_block}
use Rattle.tm_typed.specs.tm_trees.FileTrees.{a_value, an_if, an_if_else, a_while, a_do, a_for, a_switch, a_break}
use Rattle.tm_typed.specs.tm_trees.FileTrees.{a_continue, a_return, a_lock, an_unlock, a_yield, PartTree, a_local}
use Rattle.tm_typed.specs.tm_trees.FileTrees.{a_step, PartTrees, no_parts, and_part, CaseTree, a_case, a_default}
use Rattle.tm_typed.specs.tm_trees.FileTrees.{a_case_step, CaseTrees, no_cases, and_case}
use Rattle.tm_typed.specs.Scopes.{named}
use Rattle.tm_typed.specs.TypedTrees.{RvalueTree}
use Rattle.tm_typed.specs.Refusals.{then_with, row, row_unless, refused}
use Rattle.tm_typed.specs.Operands.{valued, given, is_structure}
use Rattle.tm_typed.specs.States.{State}
use Rattle.tm_typed.specs.Evaluation.{typed_in, folded_value}
use Rattle.tm_typed.specs.Declarations.{local_declaration}
use Rattle.tm_typed.specs.WellTyped.{OnAnswer}
use Rattle.tm_typed.specs.TypedStatements.{TypedTree, evaluates, declares, runs_block, branches, branches_else, loops_while, loops_do, loops_for, selects, breaks, continues, returns, locks, unlocks, yields, TypedTrees, no_statements, and_statement, TypedCase, a_label, a_default_label, a_labelled_step, TypedCases, no_typed_cases, and_typed_case}
use Rattle.tm_typed.specs.StatementRules.{Around, looping, switching, Labels, no_labels, with_label, default_rules, return_rules, return_value_rules, mutex_rules}
use Rattle.tm_typed.specs.StatementTyping.{value_in, condition_in, optional_value_in, optional_condition_in, return_in, selector_in, label_in, first_in, enter, leave, statement_in, part_in, parts_in, case_in, cases_in}
use Rattle.typing_laws.specs.Placement.{ArePlaced, AreAllPlaced, AreCasesPlaced, IsCasePlaced}
use Rattle.typing_laws.proofs.Steps.{then_on, then_any, from_answer}

abbrev Placed : Around → TypedTree × State → Type 0
Placed around a = ArePlaced around a.0

break_placed : (s : State) (around : Around) (p : Place) (b : Bool) → (around.in_loop || around.in_switch) ≡ b → OnAnswer (Placed around) (then_with (row (not b) Kinds.Mismatch p (Ok breaks)) (λ r. Ok (r, s)))
break_placed s around p true e = e
break_placed s around p false e = tt

continue_placed : (s : State) (around : Around) (p : Place) (b : Bool) → around.in_loop ≡ b → OnAnswer (Placed around) (then_with (row (not b) Kinds.Mismatch p (Ok continues)) (λ r. Ok (r, s)))
continue_placed s around p true e = e
continue_placed s around p false e = tt

abbrev IsReturn : TypedTree → Type 0
IsReturn r = (around : Around) → ArePlaced around r

plain_return : (p : Place) (b : Bool) → OnAnswer IsReturn (row b Kinds.Mismatch p (Ok (returns None)))
plain_return p true = tt
plain_return p false = λ around. tt

given_return : (p : Place) (e : Option RvalueTree) → OnAnswer IsReturn (row_unless e Kinds.Mismatch p (λ x. Ok (returns (Some x))))
given_return p None = tt
given_return p (Some e) = λ around. tt

value_return : (p : Place) (b : Bool) (e : Option RvalueTree) → OnAnswer IsReturn (row b Kinds.Unsupported p (row_unless e Kinds.Mismatch p (λ x. Ok (returns (Some x)))))
value_return p true e = tt
value_return p false e = given_return p e

return_placed : (s : State) (around : Around) (t : Option Tree) (p : Place) → OnAnswer (Placed around) (return_in s around t p)
return_placed s around None p = then_on IsReturn (Placed around) (return_rules s.scope around.result p) (λ r. Ok (r, s)) (plain_return p _) (λ r h. h around)
return_placed s around (Some t) p =
    then_any (Placed around) (typed_in s t) (λ a. then_with (return_value_rules a.1.scope around.result p (valued a.1.scope a.0)) (λ r. Ok (r, a.1))) (λ a.
    then_on IsReturn (Placed around) (return_value_rules a.1.scope around.result p (valued a.1.scope a.0)) (λ r. Ok (r, a.1))
    (value_return p (is_structure (valued a.1.scope a.0).sort) (given a.1.scope (valued a.1.scope a.0) around.result)) (λ r h. h around))

first_placed : (s : State) (around : Around) (f : ForFirstTree) → OnAnswer (Placed around) (first_in s f)
first_placed s around (by_expression t) = then_any (Placed around) (optional_value_in s t) (λ a. Ok (evaluates a.0, a.1)) (λ a. tt)
first_placed s around (by_declaration d) = then_any (Placed around) (local_declaration s d) (λ a. Ok (declares a.0, a.1)) (λ a. tt)

mutual
  pub placed : (s : State) (around : Around) (source : StatementTree) → OnAnswer (Placed around) (statement_in s around source)
  placed s around (a_block parts) = then_on (λ (b : TypedTrees × State). AreAllPlaced around b.0) (Placed around) (parts_in (enter s) around parts) (λ b. Ok (runs_block b.0, leave s b.1)) (all_placed (enter s) around parts) (λ b h. h)
  placed s around (a_value t) = then_any (Placed around) (optional_value_in s t) (λ a. Ok (evaluates a.0, a.1)) (λ a. tt)
  placed s around (an_if c t) =
      then_any (Placed around) (condition_in s c) (λ a. then_with (statement_in a.1 around t) (λ b. Ok (branches a.0 b.0, b.1))) (λ a.
      then_on (Placed around) (Placed around) (statement_in a.1 around t) (λ b. Ok (branches a.0 b.0, b.1)) (placed a.1 around t) (λ b h. h))
  placed s around (an_if_else c t u) =
      then_any (Placed around) (condition_in s c) (λ a. then_with (statement_in a.1 around t) (λ b. then_with (statement_in b.1 around u) (λ d. Ok (branches_else a.0 b.0 d.0, d.1)))) (λ a.
      then_on (Placed around) (Placed around) (statement_in a.1 around t) (λ b. then_with (statement_in b.1 around u) (λ d. Ok (branches_else a.0 b.0 d.0, d.1))) (placed a.1 around t) (λ b h.
      then_on (Placed around) (Placed around) (statement_in b.1 around u) (λ d. Ok (branches_else a.0 b.0 d.0, d.1)) (placed b.1 around u) (λ d i. (h, i))))
  placed s around (a_while c t) =
      then_any (Placed around) (condition_in s c) (λ a. then_with (statement_in a.1 (looping around) t) (λ b. Ok (loops_while a.0 b.0, b.1))) (λ a.
      then_on (Placed (looping around)) (Placed around) (statement_in a.1 (looping around) t) (λ b. Ok (loops_while a.0 b.0, b.1)) (placed a.1 (looping around) t) (λ b h. h))
  placed s around (a_do t c) =
      then_on (Placed (looping around)) (Placed around) (statement_in s (looping around) t) (λ a. then_with (condition_in a.1 c) (λ b. Ok (loops_do a.0 b.0, b.1))) (placed s (looping around) t) (λ a h.
      then_any (Placed around) (condition_in a.1 c) (λ b. Ok (loops_do a.0 b.0, b.1)) (λ b. h))
  placed s around (a_for f c step t) =
      then_on (Placed around) (Placed around) (first_in (enter s) f) (λ a. then_with (optional_condition_in a.1 c) (λ b. then_with (optional_value_in b.1 step) (λ d. then_with (statement_in d.1 (looping around) t) (λ e. Ok (loops_for a.0 b.0 d.0 e.0, leave s e.1))))) (first_placed (enter s) around f) (λ a h.
      then_any (Placed around) (optional_condition_in a.1 c) (λ b. then_with (optional_value_in b.1 step) (λ d. then_with (statement_in d.1 (looping around) t) (λ e. Ok (loops_for a.0 b.0 d.0 e.0, leave s e.1)))) (λ b.
      then_any (Placed around) (optional_value_in b.1 step) (λ d. then_with (statement_in d.1 (looping around) t) (λ e. Ok (loops_for a.0 b.0 d.0 e.0, leave s e.1))) (λ d.
      then_on (Placed (looping around)) (Placed around) (statement_in d.1 (looping around) t) (λ e. Ok (loops_for a.0 b.0 d.0 e.0, leave s e.1)) (placed d.1 (looping around) t) (λ e i. (h, i)))))
  placed s around (a_switch t cases) =
      then_any (Placed around) (selector_in s t) (λ a. then_with (cases_in (enter a.1) (switching around) a.0.works_in no_labels cases) (λ b. Ok (selects a.0.works_in a.0.value b.0, leave a.1 b.1))) (λ a.
      then_on (λ (b : TypedCases × State). AreCasesPlaced (switching around) b.0) (Placed around) (cases_in (enter a.1) (switching around) a.0.works_in no_labels cases) (λ b. Ok (selects a.0.works_in a.0.value b.0, leave a.1 b.1)) (cases_placed (enter a.1) (switching around) a.0.works_in no_labels cases) (λ b h. h))
  placed s around (a_break p) = break_placed s around p (around.in_loop || around.in_switch) refl
  placed s around (a_continue p) = continue_placed s around p around.in_loop refl
  placed s around (a_return t p) = return_placed s around t p
  placed s around (a_lock m q p) = then_any (Placed around) (mutex_rules q (named s.scope m)) (λ n. Ok (locks n p, s)) (λ n. tt)
  placed s around (an_unlock m q p) = then_any (Placed around) (mutex_rules q (named s.scope m)) (λ n. Ok (unlocks n p, s)) (λ n. tt)
  placed s around (a_yield p) = tt

  part_placed : (s : State) (around : Around) (part : PartTree) → OnAnswer (Placed around) (part_in s around part)
  part_placed s around (a_local d) = then_any (Placed around) (local_declaration s d) (λ a. Ok (declares a.0, a.1)) (λ a. tt)
  part_placed s around (a_step t) = placed s around t

  all_placed : (s : State) (around : Around) (parts : PartTrees) → OnAnswer (λ (b : TypedTrees × State). AreAllPlaced around b.0) (parts_in s around parts)
  all_placed s around no_parts = tt
  all_placed s around (and_part part parts) =
      then_on (Placed around) (λ (b : TypedTrees × State). AreAllPlaced around b.0) (part_in s around part) (λ a. then_with (parts_in a.1 around parts) (λ b. Ok (and_statement a.0 b.0, b.1))) (part_placed s around part) (λ a h.
      then_on (λ (b : TypedTrees × State). AreAllPlaced around b.0) (λ (b : TypedTrees × State). AreAllPlaced around b.0) (parts_in a.1 around parts) (λ b. Ok (and_statement a.0 b.0, b.1)) (all_placed a.1 around parts) (λ b i. (h, i)))

  case_placed : (s : State) (around : Around) (t : IntType) (labels : Labels) (part : CaseTree) → OnAnswer (λ (a : TypedCase × Labels × State). IsCasePlaced around a.0) (case_in s around t labels part)
  case_placed s around t labels (a_case e p) = then_any (λ (a : TypedCase × Labels × State). IsCasePlaced around a.0) (label_in s t labels.values e p) (λ a. Ok (a_label a.0 p, with_label labels a.0, a.1)) (λ a. tt)
  case_placed s around t labels (a_default p) = then_any (λ (a : TypedCase × Labels × State). IsCasePlaced around a.0) (default_rules labels p) (λ l. Ok (a_default_label p, l, s)) (λ l. tt)
  case_placed s around t labels (a_case_step u) =
      then_on (Placed around) (λ (a : TypedCase × Labels × State). IsCasePlaced around a.0) (statement_in s around u) (λ a. Ok (a_labelled_step a.0, labels, a.1)) (placed s around u) (λ a h. h)

  cases_placed : (s : State) (around : Around) (t : IntType) (labels : Labels) (cases : CaseTrees) → OnAnswer (λ (b : TypedCases × State). AreCasesPlaced around b.0) (cases_in s around t labels cases)
  cases_placed s around t labels no_cases = tt
  cases_placed s around t labels (and_case part cases) =
      then_on (λ (a : TypedCase × Labels × State). IsCasePlaced around a.0) (λ (b : TypedCases × State). AreCasesPlaced around b.0) (case_in s around t labels part) (λ a. then_with (cases_in a.2 around t a.1 cases) (λ b. Ok (and_typed_case a.0 b.0, b.1))) (case_placed s around t labels part) (λ a h.
      then_on (λ (b : TypedCases × State). AreCasesPlaced around b.0) (λ (b : TypedCases × State). AreCasesPlaced around b.0) (cases_in a.2 around t a.1 cases) (λ b. Ok (and_typed_case a.0 b.0, b.1)) (cases_placed a.2 around t a.1 cases) (λ b i. (h, i)))

pub jumps_stand : (s t : State) (around : Around) (source : StatementTree) (typed : TypedTree) → statement_in s around source ≡ Ok (typed, t) → ArePlaced around typed
jumps_stand s t around source typed e = from_answer (Placed around) (statement_in s around source) (typed, t) (placed s around source) e
