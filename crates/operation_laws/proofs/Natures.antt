-- What is asked of steps and plans over variables that have natures, as a sort, or the kind of an address.
use Rattle.std.proofs.Common.{◌≡◌, ℕ, true, false, List, [], ◌∷◌, ◌++◌, Option, Some, None}
use Rattle.temporary_types.specs.flow_graph.declared.operations.Test.{Test}
use Rattle.temporary_types.specs.flow_graph.declared.operations.Operation.{Operation}
use Rattle.temporary_types.specs.flow_graph.Operations.{given}
use Rattle.lowering_laws.specs.lowering.Steps.{Steps, no_more, first_then, Step, operate, value_of, only_do, truth_of}
use Rattle.lowering_laws.specs.lowering.Steps.{choose, choose_only, call_of, Inputs, no_inputs, and_input, Code, code}
use Rattle.lowering_laws.specs.lowering.Steps.{Fork, fork_by, converse, both_of, either_of, Plan, nothing_more, in_turn}
use Rattle.lowering_laws.specs.lowering.Steps.{all_steps, one_of, loop_while, loop_stepping, loop_until, select}
use Rattle.lowering_laws.specs.lowering.Steps.{break_off, go_on, give_back, Parts, no_parts, labelled, by_default}
use Rattle.lowering_laws.specs.lowering.Steps.{and_plan}

-- the natures of values, and what is asked of variables, operations and tests by them
pub record Natures : Type 1 where
  pub Nature : Type 0
  -- the variable has the nature
  pub Is : List Nature → ℕ → Nature → Type 0
  -- every temporary has it
  pub IsAny : Nature → Type 0
  -- an operation of these variables that gives nothing, and one that gives a variable of the nature
  pub Acts : List Nature → Operation → Type 0
  pub Yields : List Nature → Operation → Nature → Type 0
  pub Tests : List Nature → Test → Type 0
  -- 0 and 1 have it, and what a `switch` takes
  pub IsTruth : Nature → Type 0
  pub IsCase : Nature → Type 0
  -- what has the one has the other when it is copied
  pub Becomes : Nature → Nature → Type 0

-- the natures of the variables, and of one more, if there is one
abbrev pub with_var : {V : Type 0} → List V → Option V → List V
with_var vs None = vs
with_var vs (Some v) = vs ++ v ∷ []

-- an operation, by what it gives, and the nature of the variable that it gives, if it gives one
abbrev pub Operates : (N : Natures) → List N.Nature → Operation → Option ℕ → Option N.Nature → Type 0
Operates N vs op None None = N.Acts vs op
Operates N vs op (Some t) (Some v) = N.Yields vs op v
Operates N vs op None (Some v) = ⊥
Operates N vs op (Some t) None = ⊥

module _ (N : Natures) (Call : ℕ → List N.Nature → Option N.Nature → Type 0) where
  abbrev mutual
    -- steps over variables of these natures, after which there are those
    pub StepsFit : List N.Nature → Steps → List N.Nature → Type 0
    StepsFit vs no_more ws = vs ≡ ws
    StepsFit vs (first_then s rest) ws = (o : Option N.Nature) × StepFits vs s o × StepsFit (with_var vs o) rest ws

    -- a step, and the nature of the variable that it gives, if it gives one
    pub StepFits : List N.Nature → Step → Option N.Nature → Type 0
    StepFits vs (operate op) o = Operates N vs op (given op) o
    StepFits vs (value_of c) (Some s) = CodeFits c (Some s)
    StepFits vs (value_of c) None = ⊥
    StepFits vs (only_do c) (Some s) = ⊥
    StepFits vs (only_do c) None = (r : Option N.Nature) × CodeFits c r
    StepFits vs (truth_of f) (Some s) = N.IsTruth s × ForkFits f
    StepFits vs (truth_of f) None = ⊥
    StepFits vs (choose f x y) (Some s) =
        (a b : N.Nature) × ForkFits f × CodeFits x (Some a) × N.Becomes a s × CodeFits y (Some b) × N.Becomes b s
    StepFits vs (choose f x y) None = ⊥
    StepFits vs (choose_only f x y) (Some s) = ⊥
    StepFits vs (choose_only f x y) None = (a b : Option N.Nature) × ForkFits f × CodeFits x a × CodeFits y b
    StepFits vs (call_of true site es p) (Some s) = (ins : List N.Nature) × InputsFit es ins × Call site ins (Some s)
    StepFits vs (call_of true site es p) None = ⊥
    StepFits vs (call_of false site es p) (Some s) = ⊥
    StepFits vs (call_of false site es p) None =
        (ins : List N.Nature) × (r : Option N.Nature) × InputsFit es ins × Call site ins r

    -- arguments with values of these natures
    pub InputsFit : Inputs → List N.Nature → Type 0
    InputsFit no_inputs [] = Unit {0}
    InputsFit no_inputs (s ∷ ss) = ⊥
    InputsFit (and_input c es) [] = ⊥
    InputsFit (and_input c es) (s ∷ ss) = CodeFits c (Some s) × InputsFit es ss

    -- a part, and the nature of its value, if it has one
    pub CodeFits : Code → Option N.Nature → Type 0
    CodeFits (code steps None) (Some s) = (ws : List N.Nature) × StepsFit [] steps ws × N.IsAny s
    CodeFits (code steps None) None = (ws : List N.Nature) × StepsFit [] steps ws
    CodeFits (code steps (Some v)) (Some s) = (ws : List N.Nature) × StepsFit [] steps ws × N.Is ws v s
    CodeFits (code steps (Some v)) None = ⊥

    pub ForkFits : Fork → Type 0
    ForkFits (fork_by steps test) = (ws : List N.Nature) × StepsFit [] steps ws × N.Tests ws test
    ForkFits (converse f) = ForkFits f
    ForkFits (both_of f g) = ForkFits f × ForkFits g
    ForkFits (either_of f g) = ForkFits f × ForkFits g

  abbrev pub MaybeFork : Option Fork → Type 0
  MaybeFork None = Unit {0}
  MaybeFork (Some f) = ForkFits f

  -- steps over no variables
  abbrev pub AnySteps : Steps → Type 0
  AnySteps steps = (ws : List N.Nature) × StepsFit [] steps ws

  -- a value is given back by a function with a result of this nature
  abbrev pub MaybeCode : Option N.Nature → Option Code → Type 0
  MaybeCode r None = Unit {0}
  MaybeCode None (Some c) = ⊥
  MaybeCode (Some s) (Some c) = (a : N.Nature) × CodeFits c (Some a) × N.Becomes a s

  module _ (result : Option N.Nature) where
    abbrev mutual
      pub PlanFits : Plan → Type 0
      PlanFits nothing_more = Unit {0}
      PlanFits (in_turn s s') = PlanFits s × PlanFits s'
      PlanFits (all_steps steps) = AnySteps steps
      PlanFits (one_of f s s') = ForkFits f × PlanFits s × PlanFits s'
      PlanFits (loop_while f s) = ForkFits f × PlanFits s
      PlanFits (loop_stepping f step s) = MaybeFork f × AnySteps step × PlanFits s
      PlanFits (loop_until s f) = PlanFits s × ForkFits f
      PlanFits (select c ps) = (a : N.Nature) × N.IsCase a × CodeFits c (Some a) × PartsFit ps
      PlanFits break_off = Unit {0}
      PlanFits go_on = Unit {0}
      PlanFits (give_back c) = MaybeCode result c

      pub PartsFit : Parts → Type 0
      PartsFit no_parts = Unit {0}
      PartsFit (labelled z rest) = PartsFit rest
      PartsFit (by_default rest) = PartsFit rest
      PartsFit (and_plan s rest) = PlanFits s × PartsFit rest
