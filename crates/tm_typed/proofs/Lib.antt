pub mod CallTrees
pub mod TypedStatementTrees
pub mod low
