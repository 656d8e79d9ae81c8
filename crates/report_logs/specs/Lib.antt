pub mod Laws
pub mod Logs
pub mod Refusals
pub mod Sarif
pub mod Uris
pub mod reading
