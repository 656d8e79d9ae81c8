pub mod Ranges
pub mod Values
pub mod Wide
pub mod low
