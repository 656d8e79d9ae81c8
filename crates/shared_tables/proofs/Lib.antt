pub mod Bounds
pub mod Empties
