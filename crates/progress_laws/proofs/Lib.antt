pub mod Reaching
pub mod CellPlaces
pub mod Leading
pub mod Answerable
pub mod Progress
pub mod Holders
mod Example
