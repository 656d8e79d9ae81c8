-- What the code tells apart: no clause of a public call names it.
pub mod Families
