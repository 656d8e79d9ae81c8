pub mod Steps
pub mod Pushing
pub mod Tables
pub mod Lasts
pub mod Fitting
pub mod Joined
pub mod Surrounded
