-- Stores are bounded (Bounded) and climb (Climbing), so passes end (Ends), in a least solution (Least); the heights of
-- the example at the head of the crate (Examples).
pub mod Bounded
pub mod Climbing
pub mod Ends
pub mod Least
mod Examples
