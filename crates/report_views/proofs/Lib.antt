pub mod ViewFound
pub mod ClassLines
pub mod Sharing
