pub mod Climb
pub mod Comparing
pub mod Edits
pub mod Merging
pub mod Rounding
pub mod Search
pub mod Writes
