pub mod Heads
pub mod Live
