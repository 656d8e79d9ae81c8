-- The cells that a body sees, as its states are read (Shapes), and the lists that a state's lines are (Parts), with
-- bounds on their numbers (Bounds); lines of cells that are read again (KeptRows), and cells as they are read, and kept
-- for the next state (Cells).
pub mod Shapes
pub mod Parts
pub mod Bounds
pub mod KeptRows
pub mod Cells
