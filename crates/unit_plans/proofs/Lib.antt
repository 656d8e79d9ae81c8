pub mod Ends
pub mod FirstCauses
pub mod LeftOutLaw
pub mod TableSteps
