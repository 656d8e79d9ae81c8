-- Toys that meet what the laws of the engine ask for; and when a list of edges can be configured (Checks).
pub mod Checks
pub mod LoopLaws
pub mod Loops
pub mod Sets
pub mod laws
