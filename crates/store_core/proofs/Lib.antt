pub mod Causes
pub mod FirstFree
pub mod Keeping
pub mod Led
pub mod Pasts
