pub mod Answered
pub mod Alike
pub mod low
