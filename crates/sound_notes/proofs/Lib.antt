-- Runs of graphs stand at one node (OneStand), and what their moves say (Moves). A world of the graphs in which a task
-- is wherever its run comes (Behind, Passing); what the states of a solution hold there, in words of states
-- (MetStates), in each world that a run reaches (Coming); where it waits for an answer (Awaiting), with what cells hold
-- that it may read (Members), and that cells are not stored there which are open (Unstored); and what the contexts of
-- alarms tell of it (Told, Always, Locked).
mod OneStand
mod Moves
mod Behind
mod Passing
pub mod MetStates
pub mod Coming
pub mod Members
pub mod Awaiting
pub mod Unstored
pub mod Told
pub mod Always
pub mod Locked
