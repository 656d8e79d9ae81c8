mod MarkSteps
mod Counting
pub mod Telling
mod Tried
pub mod low
