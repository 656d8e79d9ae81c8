mod Operations
pub mod Lists
pub mod One
mod Exact
pub mod Steps
pub mod Tables
pub mod Numbered
pub mod low
