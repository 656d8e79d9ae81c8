pub mod NewNames
pub mod SameSayings
