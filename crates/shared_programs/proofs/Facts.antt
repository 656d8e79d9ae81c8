-- What is computed once of a program, and states that may be missing, may be sent to other threads, and be shared by
-- them.
use denote.Builtin.{usize}
use denote.Param.Send.{IsSend, IsSync, view_send, view_sync, sendable}
use denote.Param.SendFields.{as_row_send, as_row_sync}
use Rattle.std.specs.contracts.option.Option as Option
use Rattle.std.proofs.Crossing.{Vec-send, Vec-sync}
use Rattle.program_systems.specs.strided_dom.contracts.rounding.Marks as Marks
use Rattle.program_systems.specs.pointer_dom.contracts.abs_value.AbsValue as AbsValue
use Rattle.program_systems.specs.pointer_dom.contracts.abs_value.AbsValueLattice.TheImpl as OfValues
use Rattle.program_systems.specs.cell_env.contracts.states.State as State
use Rattle.program_systems.specs.graph_facts.contracts.regions.Head as Head
use Rattle.program_systems.specs.table_covers.contracts.links.Link as Link
use Rattle.program_systems.specs.body_systems.contracts.facts.BodyFacts as BodyFacts
use Rattle.program_systems.specs.body_systems.contracts.facts.BodyFacts.TheInside as FactsInside
use Rattle.program_systems.specs.body_systems.contracts.states.BodyState as BodyState
use Rattle.program_systems.specs.body_systems.contracts.states.BodyState.TheInside as StateInside
use Rattle.program_systems.specs.contracts.facts.ProgramFacts as ProgramFacts
use Rattle.program_systems.specs.contracts.facts.ProgramFacts.TheInside as ProgramInside
use Rattle.shared_programs.proofs.States.{value_state_send, value_state_sync}

link_send : IsSend Link.the_row
link_send = as_row_send Link.the_field (search sendable depth 20)

head_send : IsSend Head.the_row
head_send = as_row_send Head.the_field (search sendable depth 20)

place_send : IsSend (Option.the_row usize)
place_send = as_row_send (Option.the_field usize) (search sendable depth 20)

body_facts_send : IsSend BodyFacts.the_row
body_facts_send =
    view_send FactsInside.the_row _ _ _ _
    (as_row_send FactsInside.the_field (search (link_send, head_send, place_send, Vec-send, sendable) depth 30))

pub program_facts_send : IsSend ProgramFacts.the_row
program_facts_send =
    view_send ProgramInside.the_row _ _ _ _
    (as_row_send ProgramInside.the_field (search (body_facts_send, Vec-send, sendable) depth 20))

body_state_send : IsSend BodyState.the_row
body_state_send =
    view_send StateInside.the_row _ _ _ _
    (as_row_send StateInside.the_field (search (value_state_send, sendable) depth 20))

-- the state of a body at a node that is reached or not
pub node_state_send : IsSend (Option.the_row BodyState.the_row)
node_state_send = as_row_send (Option.the_field BodyState.the_row) (search (body_state_send, sendable) depth 20)

-- the state in which a task begins, if it does
pub entry_send : IsSend (Option.the_row (State.the_row AbsValue.the_row Marks.the_row OfValues.ghosts))
entry_send =
    as_row_send (Option.the_field (State.the_row AbsValue.the_row Marks.the_row OfValues.ghosts))
    (search (value_state_send, sendable) depth 20)

link_sync : IsSync Link.the_row
link_sync = as_row_sync Link.the_field (search sendable depth 20)

head_sync : IsSync Head.the_row
head_sync = as_row_sync Head.the_field (search sendable depth 20)

place_sync : IsSync (Option.the_row usize)
place_sync = as_row_sync (Option.the_field usize) (search sendable depth 20)

body_facts_sync : IsSync BodyFacts.the_row
body_facts_sync =
    view_sync FactsInside.the_row _ _ _ _
    (as_row_sync FactsInside.the_field (search (link_sync, head_sync, place_sync, Vec-sync, sendable) depth 30))

pub program_facts_sync : IsSync ProgramFacts.the_row
program_facts_sync =
    view_sync ProgramInside.the_row _ _ _ _
    (as_row_sync ProgramInside.the_field (search (body_facts_sync, Vec-sync, sendable) depth 20))

body_state_sync : IsSync BodyState.the_row
body_state_sync =
    view_sync StateInside.the_row _ _ _ _
    (as_row_sync StateInside.the_field (search (value_state_sync, sendable) depth 20))

-- the state of a body at a node that is reached or not
pub node_state_sync : IsSync (Option.the_row BodyState.the_row)
node_state_sync = as_row_sync (Option.the_field BodyState.the_row) (search (body_state_sync, sendable) depth 20)

-- the state in which a task begins, if it does
pub entry_sync : IsSync (Option.the_row (State.the_row AbsValue.the_row Marks.the_row OfValues.ghosts))
entry_sync =
    as_row_sync (Option.the_field (State.the_row AbsValue.the_row Marks.the_row OfValues.ghosts))
    (search (value_state_sync, sendable) depth 20)
