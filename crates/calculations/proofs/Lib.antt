pub mod Calculating
pub mod StandingOffsets
pub mod low
