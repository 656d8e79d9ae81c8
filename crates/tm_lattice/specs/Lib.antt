pub mod Fitting
pub mod Heights
pub mod LatticeLaws
pub mod Rounds
pub mod Tables
pub mod laws
pub mod reading
