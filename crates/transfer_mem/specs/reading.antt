-- The families of operations, and what those give that calculate (Givings).
pub mod Givings
