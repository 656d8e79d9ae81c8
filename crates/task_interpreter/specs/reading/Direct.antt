-- What a task does next in direct style, as the code goes: each part gives what it gives, and how many answers are used
-- then; or the action at which the task stops.
use Rattle.std.specs.Prelude.{ℕ, zero, suc, ◌+◌, ◌-◌, ltb, pos, Bool, true, false, not, if◌then◌else◌, List, [], ◌∷◌}
use Rattle.std.specs.Prelude.{length, slice_get, Result, Ok, Err, Option, Some, None}
use Rattle.tm_cint.specs.declared.Class.{Class}
use Rattle.tm_cint.specs.IntTypes.{lo_of, hi_of}
use Rattle.tm_terms.specs.declared.places.Place.{Place}
use Rattle.tm_typed.specs.declared.types.CType.{CType}
use Rattle.tm_typed.specs.declared.types.CType.TheVariants as Types
use Rattle.tm_typed.specs.declared.types.Scalar.{Scalar}
use Rattle.tm_typed.specs.declared.types.Scalar.TheVariants as Scalars
use Rattle.tm_typed.specs.declared.expressions.Step.{Step}
use Rattle.tm_typed.specs.declared.scopes.ObjectNumber.TheVariants.{Local}
use Rattle.tm_typed.specs.TypedTrees.{RvalueTree, a_constant, a_folded, a_null, a_load, an_address}
use Rattle.tm_typed.specs.TypedTrees.{a_structure}
use Rattle.tm_typed.specs.TypedTrees.{the_same, a_unary, a_binary, a_comparison_of_pointers, a_move, a_not}
use Rattle.tm_typed.specs.TypedTrees.{an_and}
use Rattle.tm_typed.specs.TypedTrees.{an_or, a_choice, an_assignment, a_compound, a_compound_move}
use Rattle.tm_typed.specs.TypedTrees.{a_unit_step}
use Rattle.tm_typed.specs.TypedTrees.{a_pointer_step, a_function_call, an_input_value, a_probe, a_comma}
use Rattle.tm_typed.specs.TypedTrees.{a_conversion}
use Rattle.tm_typed.specs.TypedTrees.{a_discard, LvalueTree, an_object, an_element, a_pointed_element}
use Rattle.tm_typed.specs.TypedTrees.{a_pointed}
use Rattle.tm_typed.specs.TypedTrees.{an_arrow, a_part, lvalue_place, RvalueTrees, no_rvalues, and_rvalue}
use Rattle.tm_typed.specs.TypedStatements.{GivenTree, LocalInitialiserTree, LocalTree, TypedTree, evaluates}
use Rattle.tm_typed.specs.TypedStatements.{declares}
use Rattle.tm_typed.specs.TypedStatements.{runs_block, branches, branches_else, loops_while, loops_do}
use Rattle.tm_typed.specs.TypedStatements.{loops_for}
use Rattle.tm_typed.specs.TypedStatements.{selects, breaks, continues, returns, locks, unlocks, yields}
use Rattle.tm_typed.specs.TypedStatements.{TypedTrees}
use Rattle.tm_typed.specs.TypedStatements.{no_statements, and_statement, a_label, a_default_label}
use Rattle.tm_typed.specs.TypedStatements.{a_labelled_step, TypedCases, no_typed_cases, and_typed_case}
use Rattle.tm_typed.specs.Functions.{TypedBodyTree}
use Rattle.tm_laid.specs.Layouts.{LaidTree, object_at, first_path, callee, object_of}
use Rattle.concrete_values.specs.declared.values.Pointer.TheVariants as Pointers
use Rattle.concrete_values.specs.declared.values.Value.{Value}
use Rattle.concrete_values.specs.declared.values.Value.TheVariants.{Number, Pointer as APointer}
use Rattle.concrete_values.specs.declared.values.Answer.{Answer}
use Rattle.concrete_values.specs.declared.actions.Next.{Next}
use Rattle.concrete_values.specs.declared.actions.Next.TheVariants as Acts
use Rattle.concrete_values.specs.Values.{nothing, truth_value, is_true}
use Rattle.concrete_values.specs.Operators.{binary, unary, converted, is_case}
use Rattle.concrete_values.specs.Pointers.{base, part, element, moved, dereferenced, usable, compared}
use Rattle.concrete_values.specs.Actions.{load_at, store_at, clear_at, answer_of}
use Rattle.concrete_steps.specs.Places.{result_type, gives_pointer, rvalue_place}
use Rattle.concrete_steps.specs.NextAction.{tested, scalar_at, zero_of, compound_result, step_operator, step_value}
use Rattle.concrete_steps.specs.NextAction.{is_given, rest_of, function_at}
use Rattle.task_interpreter.specs.declared.answers.Gave.{Gave}
use Rattle.task_interpreter.specs.declared.answers.Held.{Held}
use Rattle.task_interpreter.specs.declared.answers.Flow.{Flow}
use Rattle.task_interpreter.specs.declared.answers.Flow.TheVariants.{Goes, Breaks, Continues, Returns}

-- ## Actions and their answers

abbrev pub gave : Value → ℕ → Gave
gave v at = record { value = v; at = at }

abbrev pub fit_at : Option Value → ℕ → Result Gave Next
fit_at (Some v) at = Ok (gave v (at + 1))
fit_at None at = Err Acts.Misfit

abbrev pub act_at : LaidTree → Option Answer → Next → ℕ → Result Gave Next
act_at laid None action at = Err action
act_at laid (Some a) action at = fit_at (answer_of laid action a) at

-- an action, and its answer
unfoldable pub act_ran : LaidTree → List Answer → Next → ℕ → Result Gave Next
act_ran laid answers action at = act_at laid (slice_get answers at) action at

abbrev pub last_in : Option Answer → Next → Next
last_in None action = action
last_in (Some a) action = Acts.Misfit

-- an action that nothing follows
unfoldable pub last_at : List Answer → Next → ℕ → Next
last_at answers action at = last_in (slice_get answers at) action

-- how many answers are left
unfoldable pub left_at : List Answer → ℕ → ℕ
left_at answers at = length answers - at

-- a part, and what comes after it
unfoldable pub run_then : Result Gave Next → (Value → ℕ → Result Gave Next) → Result Gave Next
run_then (Ok g) go = go g.value g.at
run_then (Err action) go = Err action

-- what an operator gives, or its error
abbrev pub calculated : List Answer → Result Value Class → Place → ℕ → Result Gave Next
calculated answers (Ok v) p at = Ok (gave v at)
calculated answers (Err class) p at = Err (last_at answers (Acts.Fault class p) at)

-- a store, whose value is what is stored
unfoldable pub stored : LaidTree → List Answer → Value → Scalar → Value → Place → ℕ → Result Gave Next
stored laid answers a s v p at = run_then (act_ran laid answers (store_at a s v p) at) (λ u at1. Ok (gave v at1))

-- the store of what an operator gives, or its error
unfoldable pub changed : LaidTree → List Answer → Value → Scalar → Result Value Class → Place → ℕ → Result Gave Next
changed laid answers a s (Ok v) p at = stored laid answers a s v p at
changed laid answers a s (Err class) p at = Err (last_at answers (Acts.Fault class p) at)

-- the store of `++` or `--`, and its value
unfoldable pub stepped : LaidTree → List Answer → Step → Held → Scalar → Result Value Class → Place → Result Gave Next
stepped laid answers step held s r p = run_then (changed laid answers held.address s r p held.at)
    (λ w at1. Ok (gave (step_value step held.value w) at1))

-- ## What is calculated

abbrev pub result_by : Result Value Class → (Value → Result Value Class) → Result Value Class
result_by (Ok v) f = f v
result_by (Err class) f = Err class

-- a comparison of pointers, which must be usable
abbrev pub comparison : Bool → Value → Value → Result Value Class
comparison equal x y = result_by (usable x) (λ u. result_by (usable y) (λ v. Ok (compared equal u v)))

-- what a pointer with a subscript designates
abbrev pub subscripted : LaidTree → ℕ → ℕ → ℕ → Value → Value → Result Value Class
subscripted laid path cells type x y = result_by (moved laid false cells x y) (dereferenced laid path type)

-- what a member of what a pointer designates is
abbrev pub arrow : LaidTree → ℕ → ℕ → ℕ → Value → Result Value Class
arrow laid path type cell x = result_by (dereferenced laid path type x) (λ a. Ok (part laid cell a))

-- the value of a condition: a pointer that is tested must be usable
unfoldable pub tried : LaidTree → List Answer → RvalueTree → Value → ℕ → Result Gave Next
tried laid answers e v at = calculated answers (tested (gives_pointer laid e) v) (rvalue_place e) at

-- ## Expressions

-- A call path that runs over answers, and what a call does there: the call at a site, with the values of its arguments,
-- at a place.
pub record Seat : Type 0 where
  pub laid : LaidTree
  pub answers : List Answer
  pub path : ℕ
  pub call : ℕ → List Value → Place → ℕ → Result Gave Next

abbrev pub held_by : Value → Result Gave Next → Result Held Next
held_by a (Ok g) = Ok (record { address = a; value = g.value; at = g.at })
held_by a (Err action) = Err action

-- a cell at an address, and what it holds
unfoldable pub loaded : LaidTree → List Answer → Result Gave Next → Scalar → Bool → Place → Result Held Next
loaded laid answers (Ok g) s volatile p = held_by g.value (act_ran laid answers (load_at g.value s volatile p) g.at)
loaded laid answers (Err action) s volatile p = Err action

unfoldable pub held_then : Result Held Next → (Held → Result Gave Next) → Result Gave Next
held_then (Ok h) go = go h
held_then (Err action) go = Err action

-- the values of arguments, and how many answers are used then
pub record Values : Type 0 where
  pub values : List Value
  pub at : ℕ

abbrev pub with_value : Value → Result Values Next → Result Values Next
with_value v (Ok vs) = Ok (record { values = v ∷ vs.values; at = vs.at })
with_value v (Err action) = Err action

unfoldable pub and_values : Result Gave Next → (ℕ → Result Values Next) → Result Values Next
and_values (Ok g) go = with_value g.value (go g.at)
and_values (Err action) go = Err action

unfoldable pub values_then : Result Values Next → (List Value → ℕ → Result Gave Next) → Result Gave Next
values_then (Ok vs) go = go vs.values vs.at
values_then (Err action) go = Err action

-- the second operand of `&&` or `||`
unfoldable pub truth_ran : Result Gave Next → Result Gave Next
truth_ran r = run_then r (λ y at. Ok (gave (truth_value (is_true y)) at))

-- an expression is wanted for its value, or as a condition
pub data Wanted : Type 0 where
  a_value : Wanted
  a_branch : Wanted

abbrev pub as_wanted : Seat → Wanted → RvalueTree → Result Gave Next → Result Gave Next
as_wanted s a_value e r = r
as_wanted s a_branch e r = run_then r (tried s.laid s.answers e)

-- A condition goes by its form.
abbrev mutual
  pub used_ran : Seat → RvalueTree → Wanted → ℕ → Result Gave Next
  used_ran s (a_folded z e) a_value at = Ok (gave (Number z) at)
  used_ran s (a_folded z e) a_branch at = used_ran s e a_branch at
  used_ran s (a_constant t z p) w at = as_wanted s w (a_constant t z p) (Ok (gave (Number z) at))
  used_ran s (a_null p) w at = as_wanted s w (a_null p) (Ok (gave (APointer Pointers.Null) at))
  used_ran s (a_load c volatile l) w at = as_wanted s w (a_load c volatile l) (run_then (address_ran s l at)
      (λ a at1. act_ran s.laid s.answers (load_at a c volatile (lvalue_place l)) at1))
  used_ran s (an_address l p) w at = as_wanted s w (an_address l p) (address_ran s l at)
  used_ran s (a_structure l) w at = as_wanted s w (a_structure l)
      (run_then (address_ran s l at) (λ a at1. Ok (gave nothing at1)))
  used_ran s (the_same e p) w at = as_wanted s w (the_same e p) (used_ran s e a_value at)
  used_ran s (a_unary o t e p) w at = as_wanted s w (a_unary o t e p)
      (run_then (used_ran s e a_value at) (λ x at1. calculated s.answers (unary o t x) p at1))
  used_ran s (a_binary o t l r p) w at = as_wanted s w (a_binary o t l r p)
      (run_then (used_ran s l a_value at) (λ x at1. run_then (used_ran s r a_value at1)
      (λ y at2. calculated s.answers (binary o t x y) p at2)))
  used_ran s (a_comparison_of_pointers equal l r p) w at = as_wanted s w (a_comparison_of_pointers equal l r p)
      (run_then (used_ran s l a_value at) (λ x at1. run_then (used_ran s r a_value at1)
      (λ y at2. calculated s.answers (comparison equal x y) p at2)))
  used_ran s (a_move minus cells true e i p) w at = as_wanted s w (a_move minus cells true e i p)
      (run_then (used_ran s i a_value at) (λ y at1. run_then (used_ran s e a_value at1)
      (λ x at2. calculated s.answers (moved s.laid minus cells x y) p at2)))
  used_ran s (a_move minus cells false e i p) w at = as_wanted s w (a_move minus cells false e i p)
      (run_then (used_ran s e a_value at) (λ x at1. run_then (used_ran s i a_value at1)
      (λ y at2. calculated s.answers (moved s.laid minus cells x y) p at2)))
  used_ran s (a_not e p) w at = as_wanted s w (a_not e p)
      (run_then (used_ran s e a_branch at) (λ x at1. Ok (gave (truth_value (not (is_true x))) at1)))
  used_ran s (an_and l r p) w at = as_wanted s w (an_and l r p) (run_then (used_ran s l a_branch at) (λ x at1.
      if is_true x then truth_ran (used_ran s r a_branch at1) else Ok (gave (truth_value false) at1)))
  used_ran s (an_or l r p) w at = as_wanted s w (an_or l r p) (run_then (used_ran s l a_branch at) (λ x at1.
      if is_true x then Ok (gave (truth_value true) at1) else truth_ran (used_ran s r a_branch at1)))
  used_ran s (a_choice c x y p) w at = as_wanted s w (a_choice c x y p) (run_then (used_ran s c a_branch at) (λ u at1.
      if is_true u then used_ran s x a_value at1 else used_ran s y a_value at1))
  used_ran s (an_assignment c l e p) w at = as_wanted s w (an_assignment c l e p)
      (run_then (address_ran s l at) (λ a at1. run_then (used_ran s e a_value at1)
      (λ v at2. stored s.laid s.answers a c v p at2)))
  used_ran s (a_compound o cell of volatile l e p) w at = as_wanted s w (a_compound o cell of volatile l e p)
      (held_then (loaded s.laid s.answers (address_ran s l at) (Scalars.Int cell) volatile (lvalue_place l)) (λ h.
      run_then (used_ran s e a_value h.at) (λ y at2.
      changed s.laid s.answers h.address (Scalars.Int cell) (compound_result o cell of h.value y) p at2)))
  used_ran s (a_compound_move minus cells class l e p) w at = as_wanted s w (a_compound_move minus cells class l e p)
      (held_then (loaded s.laid s.answers (address_ran s l at) (Scalars.Pointer class) false (lvalue_place l)) (λ h.
      run_then (used_ran s e a_value h.at) (λ y at2.
      changed s.laid s.answers h.address (Scalars.Pointer class) (moved s.laid minus cells h.value y) p at2)))
  used_ran s (a_unit_step step cell of volatile l p) w at = as_wanted s w (a_unit_step step cell of volatile l p)
      (held_then (loaded s.laid s.answers (address_ran s l at) (Scalars.Int cell) volatile (lvalue_place l)) (λ h.
      stepped s.laid s.answers step h (Scalars.Int cell)
      (compound_result (step_operator step) cell of h.value (Number (pos 1))) p))
  used_ran s (a_pointer_step step cells class l p) w at = as_wanted s w (a_pointer_step step cells class l p)
      (held_then (loaded s.laid s.answers (address_ran s l at) (Scalars.Pointer class) false (lvalue_place l)) (λ h.
      stepped s.laid s.answers step h (Scalars.Pointer class) (moved s.laid step.minus cells h.value (Number (pos 1)))
      p))
  used_ran s (a_function_call f site es p) w at = as_wanted s w (a_function_call f site es p)
      (values_then (arguments_ran s es at) (λ vs at1. s.call site vs p at1))
  used_ran s (an_input_value low high p) w at = as_wanted s w (an_input_value low high p)
      (act_ran s.laid s.answers (Acts.Chosen low high) at)
  used_ran s (a_probe m p) w at = as_wanted s w (a_probe m p) (act_ran s.laid s.answers (Acts.Probe m p) at)
  used_ran s (a_comma l r p) w at = as_wanted s w (a_comma l r p)
      (run_then (used_ran s l a_value at) (λ u at1. used_ran s r a_value at1))
  used_ran s (a_conversion from to e p) w at = as_wanted s w (a_conversion from to e p)
      (run_then (used_ran s e a_value at) (λ x at1. Ok (gave (converted from to x) at1)))
  used_ran s (a_discard e p) w at = as_wanted s w (a_discard e p)
      (run_then (used_ran s e a_value at) (λ x at1. Ok (gave nothing at1)))

  pub address_ran : Seat → LvalueTree → ℕ → Result Gave Next
  address_ran s (an_object o p) at = Ok (gave (base s.laid (object_of s.laid s.path o)) at)
  address_ran s (an_element l i cells_in cells p) at = run_then (address_ran s l at) (λ a at1.
      run_then (used_ran s i a_value at1) (λ y at2. calculated s.answers (element s.laid cells_in cells a y) p at2))
  address_ran s (a_pointed_element e i cells type p) at = run_then (used_ran s e a_value at) (λ x at1.
      run_then (used_ran s i a_value at1)
      (λ y at2. calculated s.answers (subscripted s.laid s.path cells type x y) p at2))
  address_ran s (a_pointed e type p) at = run_then (used_ran s e a_value at)
      (λ x at1. calculated s.answers (dereferenced s.laid s.path type x) p at1)
  address_ran s (an_arrow e type cell p) at = run_then (used_ran s e a_value at)
      (λ x at1. calculated s.answers (arrow s.laid s.path type cell x) p at1)
  address_ran s (a_part l cell p) at = run_then (address_ran s l at) (λ a at1. Ok (gave (part s.laid cell a) at1))

  pub arguments_ran : Seat → RvalueTrees → ℕ → Result Values Next
  arguments_ran s no_rvalues at = Ok (record { values = []; at = at })
  arguments_ran s (and_rvalue e es) at = and_values (used_ran s e a_value at) (λ at1. arguments_ran s es at1)

-- the value of an expression
abbrev pub value_ran : Seat → RvalueTree → ℕ → Result Gave Next
value_ran s e at = used_ran s e a_value at

-- a condition
abbrev pub branch_ran : Seat → RvalueTree → ℕ → Result Gave Next
branch_ran s e at = used_ran s e a_branch at

-- an expression that may be left out: its value, which is nothing then
abbrev pub optional_ran : Seat → Option RvalueTree → ℕ → Result Gave Next
optional_ran s None at = Ok (gave nothing at)
optional_ran s (Some e) at = value_ran s e at

-- a condition; one that is left out is true
abbrev pub condition_ran : Seat → Option RvalueTree → ℕ → Result Gave Next
condition_ran s None at = Ok (gave (truth_value true) at)
condition_ran s (Some e) at = branch_ran s e at

-- ## Declarations

abbrev pub cell_ran : Seat → Scalar → Bool → List GivenTree → ℕ → Result Gave Next
cell_ran s c true (g ∷ gs) at = value_ran s g.value at
cell_ran s c true [] at = Ok (gave (zero_of c) at)
cell_ran s c false gs at = Ok (gave (zero_of c) at)

-- a cell is stored
unfoldable pub set_ran : Seat → ℕ → Place → ℕ → List GivenTree → ℕ → Result Gave Next
set_ran s o p k gs at = run_then (cell_ran s (scalar_at s.laid o k) (is_given k gs) gs at) (λ v at1.
    act_ran s.laid s.answers (store_at (part s.laid k (base s.laid o)) (scalar_at s.laid o k) v p) at1)

abbrev pub cells_ran : Seat → ℕ → Place → ℕ → ℕ → List GivenTree → ℕ → Result Gave Next
cells_ran s o p zero k gs at = Ok (gave nothing at)
cells_ran s o p (suc n) k gs at = run_then (set_ran s o p k gs at)
    (λ u at1. cells_ran s o p n (suc k) (rest_of (is_given k gs) gs) at1)

abbrev pub initialiser_ran : Seat → ℕ → Option LocalInitialiserTree → ℕ → Result Gave Next
initialiser_ran s o None at = Ok (gave nothing at)
initialiser_ran s o (Some i) at = cells_ran s o i.place (object_at s.laid o).cells 0 i.given at

abbrev pub local_ran : Seat → LocalTree → ℕ → Result Gave Next
local_ran s l at = run_then (act_ran s.laid s.answers (clear_at s.laid (object_of s.laid s.path (Local l.object))) at)
    (λ u at1. initialiser_ran s (object_of s.laid s.path (Local l.object)) l.initialiser at1)

abbrev pub locals_ran : Seat → List LocalTree → ℕ → Result Gave Next
locals_ran s [] at = Ok (gave nothing at)
locals_ran s (l ∷ ls) at = run_then (local_ran s l at) (λ u at1. locals_ran s ls at1)

-- ## Statements

abbrev pub flow_then : Result Gave Next → (Value → ℕ → Result Flow Next) → Result Flow Next
flow_then (Ok g) go = go g.value g.at
flow_then (Err action) go = Err action

-- a statement, and what comes after it
abbrev pub goes_on : Result Flow Next → (ℕ → Result Flow Next) → Result Flow Next
goes_on (Ok (Goes at)) go = go at
goes_on (Ok (Breaks at)) go = Ok (Breaks at)
goes_on (Ok (Continues at)) go = Ok (Continues at)
goes_on (Ok (Returns g)) go = Ok (Returns g)
goes_on (Err action) go = Err action

-- a turn that came back to the head
abbrev pub comes_back : List Answer → (ℕ → Result Flow Next) → ℕ → ℕ → Result Flow Next
comes_back answers again at at1 =
    if ltb (left_at answers at1) (left_at answers at) then again at1 else Err (last_at answers Acts.Spins at1)

-- a turn, and the turns after it; it breaks out of the loop
abbrev pub turned : List Answer → (ℕ → Result Flow Next) → ℕ → Result Flow Next → Result Flow Next
turned answers again at (Ok (Goes at1)) = comes_back answers again at at1
turned answers again at (Ok (Breaks at1)) = Ok (Goes at1)
turned answers again at (Ok (Continues at1)) = Ok (Continues at1)
turned answers again at (Ok (Returns g)) = Ok (Returns g)
turned answers again at (Err action) = Err action

abbrev pub loop_ran : List Answer → (ℕ → Result Flow Next) → ℕ → ℕ → Result Flow Next
loop_ran answers turn zero at = turned answers (λ at1. Err Acts.Misfit) at (turn at)
loop_ran answers turn (suc n) at = turned answers (loop_ran answers turn n) at (turn at)

-- the turns of a loop
unfoldable pub loop_over : List Answer → (ℕ → Result Flow Next) → ℕ → Result Flow Next
loop_over answers turn at = loop_ran answers turn (left_at answers at) at

-- the body of a loop, where it goes on or continues
abbrev pub came_on : Result Flow Next → (ℕ → Result Flow Next) → Result Flow Next
came_on (Ok (Goes at)) go = go at
came_on (Ok (Breaks at)) go = Ok (Breaks at)
came_on (Ok (Continues at)) go = go at
came_on (Ok (Returns g)) go = Ok (Returns g)
came_on (Err action) go = Err action

-- the condition behind the body, where it has one
abbrev pub behind_ran : Seat → Option RvalueTree → ℕ → Result Flow Next
behind_ran s behind at = flow_then (condition_ran s behind at)
    (λ x at1. if is_true x then Ok (Goes at1) else Ok (Breaks at1))

-- the step of a turn, and the condition behind it
unfoldable pub step_ran : Seat → Option RvalueTree → Option RvalueTree → ℕ → Result Flow Next
step_ran s step behind at = flow_then (optional_ran s step at) (λ u at1. behind_ran s behind at1)

-- a turn of a loop: a condition, the body, a step, and a condition behind it, where it has these
abbrev pub turn_ran : Seat → Option RvalueTree → (ℕ → Result Flow Next) → Option RvalueTree → Option RvalueTree → ℕ
    → Result Flow Next
turn_ran s before body step behind at = flow_then (condition_ran s before at)
    (λ x at1. if is_true x then came_on (body at1) (step_ran s step behind) else Ok (Breaks at1))

-- a `switch` is left by `break`
abbrev pub left_switch : Result Flow Next → Result Flow Next
left_switch (Ok (Goes at)) = Ok (Goes at)
left_switch (Ok (Breaks at)) = Ok (Goes at)
left_switch (Ok (Continues at)) = Ok (Continues at)
left_switch (Ok (Returns g)) = Ok (Returns g)
left_switch (Err action) = Err action

abbrev mutual
  pub statement_ran : Seat → TypedTree → ℕ → Result Flow Next
  statement_ran s (evaluates e) at = flow_then (optional_ran s e at) (λ u at1. Ok (Goes at1))
  statement_ran s (declares ls) at = flow_then (locals_ran s ls at) (λ u at1. Ok (Goes at1))
  statement_ran s (runs_block ss) at = block_ran s ss at
  statement_ran s (branches c t) at = flow_then (branch_ran s c at) (λ x at1.
      if is_true x then statement_ran s t at1 else Ok (Goes at1))
  statement_ran s (branches_else c t u) at = flow_then (branch_ran s c at) (λ x at1.
      if is_true x then statement_ran s t at1 else statement_ran s u at1)
  statement_ran s (loops_while c t) at = loop_over s.answers (turn_ran s (Some c) (statement_ran s t) None None) at
  statement_ran s (loops_do t c) at = loop_over s.answers (turn_ran s None (statement_ran s t) None (Some c)) at
  statement_ran s (loops_for first c step t) at = goes_on (statement_ran s first at) (λ at1.
      loop_over s.answers (turn_ran s c (statement_ran s t) step None) at1)
  statement_ran s (selects t e cs) at = flow_then (value_ran s e at) (λ v at1.
      left_switch (case_ran s v cs (default_ran s cs) at1))
  statement_ran s breaks at = Ok (Breaks at)
  statement_ran s continues at = Ok (Continues at)
  statement_ran s (returns e) at = flow_then (optional_ran s e at) (λ v at1. Ok (Returns (gave v at1)))
  statement_ran s (locks m p) at = flow_then (act_ran s.laid s.answers (Acts.Lock m p) at) (λ u at1. Ok (Goes at1))
  statement_ran s (unlocks m p) at = flow_then (act_ran s.laid s.answers (Acts.Unlock m p) at) (λ u at1. Ok (Goes at1))
  statement_ran s yields at = flow_then (act_ran s.laid s.answers Acts.Yield at) (λ u at1. Ok (Goes at1))

  pub block_ran : Seat → TypedTrees → ℕ → Result Flow Next
  block_ran s no_statements at = Ok (Goes at)
  block_ran s (and_statement t ts) at = goes_on (statement_ran s t at) (λ at1. block_ran s ts at1)

  -- the parts of a `switch` from here on
  pub cases_ran : Seat → TypedCases → ℕ → Result Flow Next
  cases_ran s no_typed_cases at = Ok (Goes at)
  cases_ran s (and_typed_case (a_label z p) cs) at = cases_ran s cs at
  cases_ran s (and_typed_case (a_default_label p) cs) at = cases_ran s cs at
  cases_ran s (and_typed_case (a_labelled_step t) cs) at =
      goes_on (statement_ran s t at) (λ at1. cases_ran s cs at1)

  pub case_ran : Seat → Value → TypedCases → (ℕ → Result Flow Next) → ℕ → Result Flow Next
  case_ran s v no_typed_cases other at = other at
  case_ran s v (and_typed_case (a_label z p) cs) other at =
      if is_case z v then cases_ran s cs at else case_ran s v cs other at
  case_ran s v (and_typed_case (a_default_label p) cs) other at = case_ran s v cs other at
  case_ran s v (and_typed_case (a_labelled_step t) cs) other at = case_ran s v cs other at

  pub default_ran : Seat → TypedCases → ℕ → Result Flow Next
  default_ran s no_typed_cases at = Ok (Goes at)
  default_ran s (and_typed_case (a_label z p) cs) at = default_ran s cs at
  default_ran s (and_typed_case (a_default_label p) cs) at = cases_ran s cs at
  default_ran s (and_typed_case (a_labelled_step t) cs) at = default_ran s cs at

-- ## Calls

-- the values are stored to the parameters of a path in order, from this one on
abbrev pub passed_ran : LaidTree → List Answer → ℕ → ℕ → List Value → Place → ℕ → Result Gave Next
passed_ran laid answers path k [] p at = Ok (gave nothing at)
passed_ran laid answers path k (v ∷ vs) p at = run_then
    (act_ran laid answers (store_at (base laid (object_of laid path (Local k)))
    (scalar_at laid (object_of laid path (Local k)) 0) v p) at)
    (λ u at1. passed_ran laid answers path (suc k) vs p at1)

-- the end of a body without `return`
abbrev pub fell : LaidTree → List Answer → CType → ℕ → Result Gave Next
fell laid answers (Types.Int t) at = act_ran laid answers (Acts.Chosen (lo_of t) (hi_of t)) at
fell laid answers _ at = Ok (gave nothing at)

abbrev pub left_body : LaidTree → List Answer → CType → Result Flow Next → Result Gave Next
left_body laid answers t (Ok (Goes at)) = fell laid answers t at
left_body laid answers t (Ok (Breaks at)) = Err Acts.Misfit
left_body laid answers t (Ok (Continues at)) = Err Acts.Misfit
left_body laid answers t (Ok (Returns g)) = Ok g
left_body laid answers t (Err action) = Err action

-- a call, where bodies run so
unfoldable pub called : LaidTree → List Answer → (ℕ → ℕ → Result Gave Next) → ℕ → ℕ → List Value → Place → ℕ
    → Result Gave Next
called laid answers body path site vs p at = run_then (passed_ran laid answers (callee laid path site) 0 vs p at)
    (λ u at1. body (callee laid path site) at1)

abbrev pub seat_with : LaidTree → List Answer → (ℕ → ℕ → Result Gave Next) → ℕ → Seat
seat_with laid answers body path = record {
  laid = laid;
  answers = answers;
  path = path;
  call = called laid answers body path;
}

abbrev pub code_ran : Seat → CType → Option TypedBodyTree → ℕ → Result Gave Next
code_ran s t None at = Ok (gave nothing at)
code_ran s t (Some body) at = left_body s.laid s.answers t (block_ran s body.statements at)

-- the body of a call path, from which calls go no deeper than this
unfoldable pub body_ran : LaidTree → List Answer → ℕ → ℕ → ℕ → Result Gave Next
body_ran laid answers zero path at = Ok (gave nothing at)
body_ran laid answers (suc depth) path at =
    code_ran (seat_with laid answers (body_ran laid answers depth) path) (result_type laid (function_at laid path))
    (function_at laid path).body at

-- the seat of a path from which calls go no deeper than this
abbrev pub seat : LaidTree → List Answer → ℕ → ℕ → Seat
seat laid answers depth path = seat_with laid answers (body_ran laid answers depth) path

abbrev pub ended : List Answer → Result Gave Next → Next
ended answers (Ok g) = last_at answers Acts.Ended g.at
ended answers (Err action) = action

abbrev pub next_ran : LaidTree → ℕ → List Answer → Next
next_ran laid task answers =
    ended answers (body_ran laid answers (length laid.file.functions) (first_path laid task) 0)
