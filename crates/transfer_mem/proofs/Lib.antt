pub mod Givings
pub mod low
