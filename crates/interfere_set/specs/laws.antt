pub mod Hearing
pub mod Joins
pub mod StoreLaws
