-- The edges of a node by their numbers (Numbers), moves along edges (Moves), why a run comes to where it stands
-- (Rounds), what follows there (Ends), the entry (Entry), and
-- one answer more (RunSteps).
pub mod Numbers
pub mod Moves
pub mod Rounds
pub mod Ends
pub mod Entry
pub mod RunSteps
