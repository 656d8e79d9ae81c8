pub mod Orders
pub mod Firsts
pub mod Placed
pub mod Founded
pub mod PathNumbers
pub mod Operands
pub mod Statements
pub mod Lowered
pub mod Ranges
mod TypedDemands
pub mod TypedGraphs
pub mod TableGraphs
pub mod Configured
pub mod GraphLaws
mod Example
pub mod low
