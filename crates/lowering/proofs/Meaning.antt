-- What steps do: each operation with the values of its variables, and what comes after it.
use Rattle.std.specs.Prelude.{ℕ, Bool, true, false, if◌then◌else◌, List, [], ◌∷◌, ◌++◌, get_or, Option, Some, None}
use Rattle.concrete_steps.specs.tm_terms.declared.places.Place.{Place}
use Rattle.concrete_steps.specs.tm_laid.Layouts.{LaidTree}
use Rattle.concrete_steps.specs.concrete_values.declared.values.Value.{Value}
use Rattle.concrete_steps.specs.concrete_values.declared.actions.Next.TheVariants.{Fault, Misfit}
use Rattle.concrete_steps.specs.concrete_values.Values.{nothing, truth_value}
use Rattle.concrete_steps.specs.concrete_values.Operators.{is_case}
use Rattle.concrete_steps.specs.NextAction.{After, last, act_then, Exits, loop_over, inside}
use Rattle.flow_graph.specs.Operations.{Doing, gives, shut, asks, fails, doing, given, holds}
use Rattle.lowering.specs.Steps.{Steps, no_more, first_then, Step, operate, value_of, only_do, truth_of, choose}
use Rattle.lowering.specs.Steps.{choose_only, call_of, Inputs, no_inputs, and_input, Code, code, Fork, fork_by}
use Rattle.lowering.specs.Steps.{converse, both_of, either_of, Plan, nothing_more, in_turn, all_steps, one_of}
use Rattle.lowering.specs.Steps.{loop_while, loop_stepping, loop_until, select, break_off, go_on, give_back, Parts}
use Rattle.lowering.specs.Steps.{no_parts, labelled, by_default, and_plan}

-- the value of a variable
abbrev pub value_at : List Value → ℕ → Value
value_at vs v = get_or vs v nothing

abbrev pub doing_then : LaidTree → Doing → (Value → After) → After
doing_then laid (gives v) go = go v
doing_then laid shut go = last Misfit
doing_then laid (asks n) go = act_then laid n go
doing_then laid (fails class p) go = last (Fault class p)

-- a value that an operation gives is a new variable
abbrev pub with_given : Option ℕ → List Value → Value → List Value
with_given (Some t) vs v = vs ++ v ∷ []
with_given None vs v = vs

abbrev pub with_called : Bool → List Value → Value → List Value
with_called true vs v = vs ++ v ∷ []
with_called false vs v = vs

abbrev pub result_value : List Value → Option ℕ → Value
result_value vs (Some v) = value_at vs v
result_value vs None = nothing

abbrev pub Calls : Type 0
Calls = ℕ → List Value → Place → (Value → After) → After

module _ (laid : LaidTree) (call : Calls) where
  abbrev mutual
    pub steps_then : Steps → List Value → (List Value → After) → After
    steps_then no_more vs go = go vs
    steps_then (first_then s rest) vs go = step_then s vs (λ ws. steps_then rest ws go)

    pub step_then : Step → List Value → (List Value → After) → After
    step_then (operate op) vs go = doing_then laid (doing laid op (value_at vs)) (λ v. go (with_given (given op) vs v))
    step_then (value_of c) vs go = code_then c (λ v. go (vs ++ v ∷ []))
    step_then (only_do c) vs go = code_then c (λ v. go vs)
    step_then (truth_of f) vs go = fork_then f (go (vs ++ truth_value true ∷ [])) (go (vs ++ truth_value false ∷ []))
    step_then (choose f x y) vs go = fork_then f (code_then x (λ v. go (vs ++ v ∷ [])))
        (code_then y (λ v. go (vs ++ v ∷ [])))
    step_then (choose_only f x y) vs go = fork_then f (code_then x (λ v. go vs)) (code_then y (λ v. go vs))
    step_then (call_of has site inputs p) vs go =
        inputs_then inputs (λ ws. call site ws p (λ v. go (with_called has vs v)))

    pub inputs_then : Inputs → (List Value → After) → After
    inputs_then no_inputs go = go []
    inputs_then (and_input c rest) go = code_then c (λ v. inputs_then rest (λ vs. go (v ∷ vs)))

    pub code_then : Code → (Value → After) → After
    code_then (code steps result) go = steps_then steps [] (λ vs. go (result_value vs result))

    pub fork_then : Fork → After → After → After
    fork_then (fork_by steps test) one other =
        steps_then steps [] (λ vs. if holds test (value_at vs) then one else other)
    fork_then (converse f) one other = fork_then f other one
    fork_then (both_of f g) one other = fork_then f (fork_then g one other) other
    fork_then (either_of f g) one other = fork_then f one (fork_then g one other)

  abbrev pub optional_fork_then : Option Fork → After → After → After
  optional_fork_then None one other = one
  optional_fork_then (Some f) one other = fork_then f one other

  abbrev pub given_back_then : Option Code → (Value → After) → After
  given_back_then None go = go nothing
  given_back_then (Some c) go = code_then c go

  abbrev mutual
    pub plan_then : Plan → Exits → After
    plan_then nothing_more exits = exits.on
    plan_then (in_turn s s') exits = plan_then s (record exits { on = plan_then s' exits })
    plan_then (all_steps steps) exits = steps_then steps [] (λ vs. exits.on)
    plan_then (one_of f s s') exits = fork_then f (plan_then s exits) (plan_then s' exits)
    plan_then (loop_while f s) exits = loop_over (λ back. fork_then f (plan_then s (inside exits back)) exits.on)
    plan_then (loop_stepping f step s) exits =
        loop_over (λ back. optional_fork_then f (plan_then s (inside exits (steps_then step [] (λ vs. back)))) exits.on)
    plan_then (loop_until s f) exits = loop_over (λ back. plan_then s (inside exits (fork_then f back exits.on)))
    plan_then (select c ps) exits =
        code_then c (λ v. label_then v ps (record exits { breaks = exits.on })
        (default_part_then ps (record exits { breaks = exits.on })))
    plan_then break_off exits = exits.breaks
    plan_then go_on exits = exits.continues
    plan_then (give_back c) exits = given_back_then c exits.returns

    -- the parts of a `switch` from here on
    pub parts_then : Parts → Exits → After
    parts_then no_parts exits = exits.on
    parts_then (labelled z rest) exits = parts_then rest exits
    parts_then (by_default rest) exits = parts_then rest exits
    parts_then (and_plan s rest) exits = plan_then s (record exits { on = parts_then rest exits })

    pub label_then : Value → Parts → Exits → After → After
    label_then v no_parts exits other = other
    label_then v (labelled z rest) exits other = if is_case z v then parts_then rest exits
        else label_then v rest exits other
    label_then v (by_default rest) exits other = label_then v rest exits other
    label_then v (and_plan s rest) exits other = label_then v rest exits other

    pub default_part_then : Parts → Exits → After
    default_part_then no_parts exits = exits.on
    default_part_then (labelled z rest) exits = default_part_then rest exits
    default_part_then (by_default rest) exits = parts_then rest exits
    default_part_then (and_plan s rest) exits = default_part_then rest exits
