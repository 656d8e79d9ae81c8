pub mod Texts
pub mod FirstLines
pub mod OriginSteps
