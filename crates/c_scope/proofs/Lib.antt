pub mod Latest
pub mod Pushed
pub mod SameTypes
pub mod Popped
pub mod Members
