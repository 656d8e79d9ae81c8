-- What the laws say.
pub mod Answers
pub mod Placement
