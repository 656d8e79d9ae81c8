pub mod Tables
pub mod Fitting
pub mod Carrying
pub mod Made
pub mod Local
pub mod SparseBody
pub mod BodySolved
