-- Pieces of a text (Chains), the texts of a list (Listed) and the mutexes of a set (Sets), each behind those before.
pub mod Chains
pub mod Listed
mod Sets
