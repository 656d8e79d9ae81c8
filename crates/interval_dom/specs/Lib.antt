-- Intervals (Interval), bits of integers (Bitwise), the rows (Rows), and what they promise (Laws).
pub mod Bitwise
pub mod Interval
pub mod Laws
pub mod Rows
