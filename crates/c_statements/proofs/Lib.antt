pub mod Behind
pub mod Switches
