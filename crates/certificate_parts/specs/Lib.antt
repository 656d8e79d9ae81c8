-- What stands in front of a text and of a line (Fronts); sets of numbers by their words (Sets), objects with the offsets
-- in them (Objects) and pointers (Pointers); rows of lines that belong to keys (Runs), lines that may stand for a key
-- (Rows), with a number behind it (Numbers), and entries whose keys rise (Risings).
-- The crate below, passed on to those above.
pub use Rattle.certificate_words.specs as certificate_words
pub mod Fronts
pub mod Sets
pub mod Runs
pub mod Risings
pub mod Objects
pub mod Pointers
pub mod Rows
pub mod Numbers
