pub mod OneAnswer
pub mod low
