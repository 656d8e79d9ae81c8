-- What the code's pairs of pointers and its arguments stand for.
pub mod Pairs
