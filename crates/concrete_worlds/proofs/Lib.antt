pub mod Sets
pub mod Lists
pub mod StandingViews
pub mod Cleared
pub mod Racing
pub mod Running
