pub mod Members
pub mod TreeFacts
pub mod Checking
pub mod Noting
pub mod Walking
