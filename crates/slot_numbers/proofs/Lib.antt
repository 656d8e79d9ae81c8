pub mod Lists
pub mod Laying
pub mod Flowing
pub mod Noting
pub mod Whole
pub mod Flat
