-- What the code finds in a value before it compares: no clause of a public call names it.
pub mod Assumed
pub mod Found
pub mod Listed
pub mod Seen
pub mod Told
