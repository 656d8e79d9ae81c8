mod Slots
mod Starts
pub mod Analyses
