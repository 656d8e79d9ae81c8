-- Where runs come, and what the list of assumptions promises there (Promises); of what runs load, store and compare
-- (Accesses); of enumerations (Enumerations); and of where lives of objects begin (Beginnings).
pub mod Promises
pub mod Accesses
pub mod Enumerations
pub mod Beginnings
