pub mod Direct
pub mod Sizes
pub mod Lists
pub mod Seats
