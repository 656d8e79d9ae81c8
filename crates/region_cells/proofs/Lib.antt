-- Marks (Marking), what the edges of a node write (Nodes), the cells of objects (Covered), and what is written (Wholes).
pub mod Marking
pub mod Nodes
pub mod Covered
pub mod Wholes
pub mod low
