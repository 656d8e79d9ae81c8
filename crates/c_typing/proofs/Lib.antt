pub mod SameTypes
pub mod Orders
pub mod low
