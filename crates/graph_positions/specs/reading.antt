pub mod Families
pub mod Steps
