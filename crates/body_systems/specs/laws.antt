pub mod Lawful
pub mod Applicable
pub mod Bodies
pub mod Codes
pub mod States
