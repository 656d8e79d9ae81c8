pub mod Entries
pub mod Checked
pub mod Joined
pub mod Others
