pub mod Congruences
pub mod Quotients
pub mod Ranges
pub mod low
