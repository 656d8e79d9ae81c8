pub mod Meeting
pub mod Locals
pub mod Statements
