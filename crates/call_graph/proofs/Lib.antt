pub mod Paths
pub mod Works
pub mod SearchSteps
pub mod Marking
