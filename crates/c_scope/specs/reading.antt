-- How the indexed tables of the code stand for plain lists; no clause of a public call names it.
pub mod Positions
pub mod Members
pub mod Starts
