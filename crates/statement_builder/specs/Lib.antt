pub mod Waiting
pub mod reading
