pub mod FilterEdges
pub mod MetCells
pub mod Refined
pub mod Sides
pub mod low
