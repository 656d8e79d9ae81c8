pub mod AddedTotals
pub mod Closing
pub mod Iterates
pub mod WholeLeast
