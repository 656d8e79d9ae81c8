mod Tried
pub mod low
