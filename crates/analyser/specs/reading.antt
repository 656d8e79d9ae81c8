-- What the code computes: no clause of a public call names it.
pub mod Asked
pub mod Manners
pub mod Replies
pub mod Streams
