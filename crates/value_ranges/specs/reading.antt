pub mod Notes
pub mod Reached
pub mod CellEnds
