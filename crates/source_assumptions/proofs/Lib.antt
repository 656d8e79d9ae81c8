-- What is told of a solution is the list of its source (Listed).
pub mod Listed
