-- What the bytes of a replay are answered (Replays), that each has one kind of answer (Laws), and what the code
-- computes (reading).
-- The crates below, passed on to those above.
pub use Rattle.source_programs.specs as source_programs
pub mod Replays
pub mod Laws
pub mod reading
