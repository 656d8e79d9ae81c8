pub mod Skips
pub mod Cells
pub mod LocalLaw
pub mod Tests
pub mod Waiting
pub mod Parts
pub mod Rows
pub mod StatementLaw
