pub mod Rebuilt
pub mod Listed
pub mod Assumed
pub mod Told
pub mod Lines
