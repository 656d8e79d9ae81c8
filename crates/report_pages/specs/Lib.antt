pub mod Laws
pub mod Pages
pub mod Rows
pub mod Sources
pub mod reading
