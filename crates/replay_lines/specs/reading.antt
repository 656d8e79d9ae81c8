pub mod Cuts
pub mod Choices
