pub mod Rows
pub mod StatementNodes
pub mod low
