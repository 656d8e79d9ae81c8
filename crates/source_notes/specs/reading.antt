-- What the code computes: no clause of a public call names it.
pub mod Finders
pub mod Told
pub mod PartsTold
