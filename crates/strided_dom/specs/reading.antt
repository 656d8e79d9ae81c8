-- How a set is kept, and what private functions speak of: no clause of a public call names these.
pub mod Fields
pub mod Equations
pub mod Classes
