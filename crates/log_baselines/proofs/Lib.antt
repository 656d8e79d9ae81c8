pub mod Flaws
pub mod FoundSteps
pub mod KeyCounts
pub mod KeyPlaces
pub mod Listed
pub mod Looped
pub mod Outcomes
pub mod PartCounts
