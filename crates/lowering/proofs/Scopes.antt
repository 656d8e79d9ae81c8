-- Steps that speak of variables that stand before them.
use Rattle.std.specs.Prelude.{◌≡◌, ℕ, suc, ◌<◌, Bool, true, false, List, [], ◌∷◌, Option, Some, None}
use Rattle.flow_graph.specs.Operations.{given, used, tested}
use Rattle.flow_graph.specs.Graphs.{IsSure, IsTest}
use Rattle.lowering.specs.Steps.{Steps, no_more, first_then, Step, operate, value_of, only_do, truth_of, choose}
use Rattle.lowering.specs.Steps.{choose_only, call_of, Inputs, no_inputs, and_input, Code, code, Fork, fork_by}
use Rattle.lowering.specs.Steps.{converse, both_of, either_of, Plan, nothing_more, in_turn, all_steps, one_of}
use Rattle.lowering.specs.Steps.{loop_while, loop_stepping, loop_until, select, break_off, go_on, give_back, Parts}
use Rattle.lowering.specs.Steps.{no_parts, labelled, by_default, and_plan}

abbrev pub Below : ℕ → List ℕ → Type 0
Below n [] = Unit {0}
Below n (v ∷ vs) = (v < n) × Below n vs

abbrev pub MaybeBelow : ℕ → Option ℕ → Type 0
MaybeBelow n None = Unit {0}
MaybeBelow n (Some v) = v < n

abbrev pub more_by : Option ℕ → ℕ → ℕ
more_by (Some t) n = suc n
more_by None n = n

abbrev pub more_called : Bool → ℕ → ℕ
more_called true n = suc n
more_called false n = n

-- how many variables there are behind a step, and behind steps
abbrev pub after_step : Step → ℕ → ℕ
after_step (operate op) n = more_by (given op) n
after_step (value_of c) n = suc n
after_step (only_do c) n = n
after_step (truth_of f) n = suc n
after_step (choose f x y) n = suc n
after_step (choose_only f x y) n = n
after_step (call_of has site es p) n = more_called has n

abbrev pub after_steps : Steps → ℕ → ℕ
after_steps no_more n = n
after_steps (first_then s rest) n = after_steps rest (after_step s n)

-- it has a value
abbrev pub HasResult : Code → Type 0
HasResult (code steps (Some v)) = Unit {0}
HasResult (code steps None) = ⊥

-- where `has_at` says which calls have a value
module _ (has_at : ℕ → Bool) where
  abbrev mutual
    pub InScope : ℕ → Steps → Type 0
    InScope n no_more = Unit {0}
    InScope n (first_then s rest) = StepInScope n s × InScope (after_step s n) rest

    pub StepInScope : ℕ → Step → Type 0
    StepInScope n (operate op) = Below n (used op) × IsSure op
    StepInScope n (value_of c) = CodeInScope c × HasResult c
    StepInScope n (only_do c) = CodeInScope c
    StepInScope n (truth_of f) = ForkInScope f
    StepInScope n (choose f x y) = ForkInScope f × CodeInScope x × HasResult x × CodeInScope y × HasResult y
    StepInScope n (choose_only f x y) = ForkInScope f × CodeInScope x × CodeInScope y
    StepInScope n (call_of has site es p) = InputsInScope es × (has ≡ has_at site)

    pub InputsInScope : Inputs → Type 0
    InputsInScope no_inputs = Unit {0}
    InputsInScope (and_input c rest) = CodeInScope c × HasResult c × InputsInScope rest

    pub CodeInScope : Code → Type 0
    CodeInScope (code steps result) = InScope 0 steps × MaybeBelow (after_steps steps 0) result

    pub ForkInScope : Fork → Type 0
    ForkInScope (fork_by steps test) = InScope 0 steps × Below (after_steps steps 0) (tested test) × IsTest test
    ForkInScope (converse f) = ForkInScope f
    ForkInScope (both_of f g) = ForkInScope f × ForkInScope g
    ForkInScope (either_of f g) = ForkInScope f × ForkInScope g

  abbrev pub OptionalFork : Option Fork → Type 0
  OptionalFork None = Unit {0}
  OptionalFork (Some f) = ForkInScope f

  -- a body that has a value gives one back
  abbrev pub OptionalCode : Bool → Option Code → Type 0
  OptionalCode valued None = valued ≡ false
  OptionalCode valued (Some c) = CodeInScope c × HasResult c

  abbrev pub NoDefault : Parts → Type 0
  NoDefault no_parts = Unit {0}
  NoDefault (labelled z rest) = NoDefault rest
  NoDefault (by_default rest) = ⊥
  NoDefault (and_plan s rest) = NoDefault rest

  abbrev pub OneDefault : Parts → Type 0
  OneDefault no_parts = Unit {0}
  OneDefault (labelled z rest) = OneDefault rest
  OneDefault (by_default rest) = NoDefault rest
  OneDefault (and_plan s rest) = OneDefault rest

  -- `break` and `continue` stand where they may, in a body that has a value or has none
  abbrev mutual
    pub PlanInScope : Bool → Bool → Bool → Plan → Type 0
    PlanInScope valued br co nothing_more = Unit {0}
    PlanInScope valued br co (in_turn s s') = PlanInScope valued br co s × PlanInScope valued br co s'
    PlanInScope valued br co (all_steps steps) = InScope 0 steps
    PlanInScope valued br co (one_of f s s') = ForkInScope f × PlanInScope valued br co s × PlanInScope valued br co s'
    PlanInScope valued br co (loop_while f s) = ForkInScope f × PlanInScope valued true true s
    PlanInScope valued br co (loop_stepping f step s) = OptionalFork f × InScope 0 step × PlanInScope valued true true s
    PlanInScope valued br co (loop_until s f) = PlanInScope valued true true s × ForkInScope f
    PlanInScope valued br co (select c ps) = CodeInScope c × HasResult c × OneDefault ps
        × PartsInScope valued true co ps
    PlanInScope valued br co break_off = br ≡ true
    PlanInScope valued br co go_on = co ≡ true
    PlanInScope valued br co (give_back c) = OptionalCode valued c

    pub PartsInScope : Bool → Bool → Bool → Parts → Type 0
    PartsInScope valued br co no_parts = Unit {0}
    PartsInScope valued br co (labelled z rest) = PartsInScope valued br co rest
    PartsInScope valued br co (by_default rest) = PartsInScope valued br co rest
    PartsInScope valued br co (and_plan s rest) = PlanInScope valued br co s × PartsInScope valued br co rest
