pub mod Lists
pub mod Walked
pub mod Following
pub mod Putting
pub mod Assembled
pub mod FormPairs
