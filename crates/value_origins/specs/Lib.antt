-- To which stores null pointers are traced.
pub mod Nulls
