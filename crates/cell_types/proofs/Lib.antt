pub mod Lists
pub mod Types
pub mod Steps
pub mod Standing
