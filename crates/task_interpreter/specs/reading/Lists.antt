-- The same over what lies in slices, and which forms a family of expressions or statements has.
use Rattle.std.specs.Prelude.{◌≡◌, ℕ, ◌+◌, Bool, true, false, if◌then◌else◌, List, [], ◌∷◌, Result, Ok, Err}
use Rattle.std.specs.Prelude.{Option, Some, None}
use Rattle.tm_typed.specs.declared.expressions.Rvalue.{Rvalue}
use Rattle.tm_typed.specs.declared.statements.LocalObject.{LocalObject}
use Rattle.tm_typed.specs.declared.statements.TypedStatement.{TypedStatement}
use Rattle.tm_typed.specs.declared.statements.TypedSwitchPart.{TypedSwitchPart}
use Rattle.tm_typed.specs.TypedTrees.{RvalueTree, a_folded, a_unary, a_binary, a_comparison_of_pointers}
use Rattle.tm_typed.specs.TypedTrees.{a_move, a_not}
use Rattle.tm_typed.specs.TypedTrees.{an_and}
use Rattle.tm_typed.specs.TypedTrees.{an_or, a_choice, an_assignment, a_compound, a_compound_move}
use Rattle.tm_typed.specs.TypedTrees.{a_unit_step}
use Rattle.tm_typed.specs.TypedTrees.{a_pointer_step, a_comma, a_conversion, a_discard, rvalue_tree}
use Rattle.tm_typed.specs.TypedTrees.{as_rvalues}
use Rattle.tm_typed.specs.TypedStatements.{TypedTree, loops_while, loops_do, loops_for, selects, local_tree}
use Rattle.tm_typed.specs.TypedStatements.{typed_tree}
use Rattle.tm_typed.specs.TypedStatements.{TypedCase, a_label, a_default_label, a_labelled_step, typed_case}
use Rattle.tm_typed.specs.TypedStatements.{TypedCases, no_typed_cases, and_typed_case}
use Rattle.concrete_values.specs.declared.values.Value.{Value}
use Rattle.concrete_values.specs.declared.actions.Next.{Next}
use Rattle.concrete_values.specs.Values.{nothing}
use Rattle.concrete_values.specs.Operators.{is_case}
use Rattle.task_interpreter.specs.declared.answers.Gave.{Gave}
use Rattle.task_interpreter.specs.declared.answers.Flow.{Flow}
use Rattle.task_interpreter.specs.declared.answers.Flow.TheVariants.{Goes}
use Rattle.task_interpreter.specs.reading.Direct.{Seat, gave, run_then, goes_on, Values, value_ran, arguments_ran}
use Rattle.task_interpreter.specs.reading.Direct.{local_ran}
use Rattle.task_interpreter.specs.reading.Direct.{statement_ran}
use Rattle.task_interpreter.specs.reading.Sizes.{rvalue_size, initialiser_size, statement_size, case_size}

-- ## Families

abbrev pub is_operation : RvalueTree → Bool
is_operation (a_unary o t e p) = true
is_operation (a_binary o t l r p) = true
is_operation (a_comparison_of_pointers q l r p) = true
is_operation (a_move m c f e i p) = true
is_operation (a_conversion f t e p) = true
is_operation (a_discard e p) = true
is_operation _ = false

abbrev pub is_choice : RvalueTree → Bool
is_choice (a_not e p) = true
is_choice (an_and l r p) = true
is_choice (an_or l r p) = true
is_choice (a_choice c x y p) = true
is_choice (a_comma l r p) = true
is_choice _ = false

abbrev pub is_change : RvalueTree → Bool
is_change (an_assignment s l e p) = true
is_change (a_compound o c t v l e p) = true
is_change (a_compound_move m c k l e p) = true
is_change (a_unit_step s c t v l p) = true
is_change (a_pointer_step s c k l p) = true
is_change _ = false

-- the form of an expression that is folded
abbrev pub form_in : RvalueTree → Option RvalueTree
form_in (a_folded z e) = Some e
form_in _ = None

abbrev pub is_controlled : TypedTree → Bool
is_controlled (loops_while c s) = true
is_controlled (loops_do s c) = true
is_controlled (loops_for first c step s) = true
is_controlled (selects t e cs) = true
is_controlled _ = false

-- ## Arguments

-- the last value of arguments, and how many answers are used then, behind such
abbrev pub leading_ran : Seat → List Rvalue → Gave → Result Gave Next
leading_ran s [] g = Ok g
leading_ran s (e ∷ es) g = run_then (value_ran s (rvalue_tree e) g.at) (λ v at. leading_ran s es (gave v at))

abbrev pub leading_size : List Rvalue → ℕ
leading_size [] = 0
leading_size (e ∷ es) = rvalue_size (rvalue_tree e) + leading_size es

abbrev pub values_in : Result Values Next → Values
values_in (Ok vs) = vs
values_in (Err action) = record { values = []; at = 0 }

-- the values of arguments that are evaluated from here on, where none stops the task
unfoldable pub values_at : Seat → List Rvalue → ℕ → List Value
values_at s es at = (values_in (arguments_ran s (as_rvalues es) at)).values

unfoldable pub AreEvaluated : Seat → List Rvalue → ℕ → Type 0
AreEvaluated s es at = arguments_ran s (as_rvalues es) at ≡ Ok (values_in (arguments_ran s (as_rvalues es) at))

-- ## Statements

abbrev pub declared_ran : Seat → List LocalObject → ℕ → Result Gave Next
declared_ran s [] at = Ok (gave nothing at)
declared_ran s (l ∷ ls) at = run_then (local_ran s (local_tree l) at) (λ u at1. declared_ran s ls at1)

abbrev pub declared_size : List LocalObject → ℕ
declared_size [] = 0
declared_size (l ∷ ls) = initialiser_size (local_tree l).initialiser + declared_size ls

abbrev pub listed_ran : Seat → List TypedStatement → ℕ → Result Flow Next
listed_ran s [] at = Ok (Goes at)
listed_ran s (t ∷ ts) at = goes_on (statement_ran s (typed_tree t) at) (λ at1. listed_ran s ts at1)

abbrev pub listed_size : List TypedStatement → ℕ
listed_size [] = 0
listed_size (t ∷ ts) = statement_size (typed_tree t) + listed_size ts

abbrev pub part_ran : Seat → TypedCase → ℕ → Result Flow Next
part_ran s (a_label z p) at = Ok (Goes at)
part_ran s (a_default_label p) at = Ok (Goes at)
part_ran s (a_labelled_step t) at = statement_ran s t at

abbrev pub parts_ran : Seat → List TypedSwitchPart → ℕ → Result Flow Next
parts_ran s [] at = Ok (Goes at)
parts_ran s (c ∷ cs) at = goes_on (part_ran s (typed_case c) at) (λ at1. parts_ran s cs at1)

abbrev pub parts_size : List TypedSwitchPart → ℕ
parts_size [] = 0
parts_size (c ∷ cs) = case_size (typed_case c) + parts_size cs

abbrev pub is_wanted : TypedCase → Value → Bool
is_wanted (a_label z p) v = is_case z v
is_wanted (a_default_label p) v = false
is_wanted (a_labelled_step t) v = false

abbrev pub is_default : TypedCase → Bool
is_default (a_label z p) = false
is_default (a_default_label p) = true
is_default (a_labelled_step t) = false

-- the parts behind the first label that is the value, or else others
abbrev pub case_rest : Value → TypedCases → TypedCases → TypedCases
case_rest v no_typed_cases other = other
case_rest v (and_typed_case c cs) other = if is_wanted c v then cs else case_rest v cs other

-- the parts behind the label `default`
abbrev pub default_rest : TypedCases → TypedCases
default_rest no_typed_cases = no_typed_cases
default_rest (and_typed_case c cs) = if is_default c then cs else default_rest cs
