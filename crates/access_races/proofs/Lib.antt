pub mod Joins
pub mod Rising
pub mod Cells
mod Fronts
mod Exact
pub mod Sorting
pub mod Decided
