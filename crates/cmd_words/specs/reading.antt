-- How the words are read one after the other; no clause of a public call names it.
pub mod Steps
