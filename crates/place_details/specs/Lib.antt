pub mod Details
pub mod Fingerprints
pub mod Functions
pub mod Regions
pub mod TextLines
pub mod reading
