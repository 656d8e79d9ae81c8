pub mod Examples
pub mod WorldExamples
pub mod Refusals
pub mod Reached
pub mod Moving
pub mod low
