pub mod Groups
pub mod Searches
pub mod Copying
pub mod Configuring
