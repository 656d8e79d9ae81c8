mod Examples
pub mod Joins
pub mod Marks
pub mod States
pub mod low
