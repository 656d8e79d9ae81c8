-- What is done for an expression or a statement: operations in order, over variables. The variables of a list of steps
-- are numbered from 0 on, in the order in which the steps give them.
use Rattle.std.specs.Prelude.{ℕ, ℤ, Bool, Option}
use Rattle.concrete_steps.specs.tm_terms.declared.places.Place.{Place}
use Rattle.flow_graph.specs.declared.operations.Test.{Test}
use Rattle.flow_graph.specs.declared.operations.Operation.{Operation}

mutual
  pub data Steps : Type 0 where
    no_more : Steps
    first_then : Step → Steps → Steps

  pub data Step : Type 0 where
    -- an operation, whose temporaries stand for variables; the value that it gives, if it gives one, is a new variable
    operate : Operation → Step
    -- a part of its own; its value is a new variable, or is not used
    value_of : Code → Step
    only_do : Code → Step
    -- 1 or 0, as control comes out of a fork
    truth_of : Fork → Step
    -- one of two parts: its value is a new variable, or is not used
    choose : Fork → Code → Code → Step
    choose_only : Fork → Code → Code → Step
    -- the call at a site with the values of these arguments; its value is a new variable, if it has one
    call_of : Bool → ℕ → Inputs → Place → Step

  -- arguments, from left to right
  pub data Inputs : Type 0 where
    no_inputs : Inputs
    and_input : Code → Inputs → Inputs

  -- steps, and the variable of their value, if they have one
  pub data Code : Type 0 where
    code : Steps → Option ℕ → Code

  -- control goes on in one of two ways
  pub data Fork : Type 0 where
    fork_by : Steps → Test → Fork
    converse : Fork → Fork
    both_of : Fork → Fork → Fork
    either_of : Fork → Fork → Fork

mutual
  pub data Plan : Type 0 where
    nothing_more : Plan
    in_turn : Plan → Plan → Plan
    all_steps : Steps → Plan
    one_of : Fork → Plan → Plan → Plan
    -- a loop in which `continue` goes to the head
    loop_while : Fork → Plan → Plan
    -- a loop with a step behind each turn, to which `continue` goes
    loop_stepping : Option Fork → Steps → Plan → Plan
    loop_until : Plan → Fork → Plan
    select : Code → Parts → Plan
    break_off : Plan
    go_on : Plan
    give_back : Option Code → Plan

  -- the block of a `switch`: its labels among its statements
  pub data Parts : Type 0 where
    no_parts : Parts
    labelled : ℤ → Parts → Parts
    by_default : Parts → Parts
    and_plan : Plan → Parts → Parts
