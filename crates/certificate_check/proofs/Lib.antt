-- The program of a source as the laws of soundness read it (Sourced), the source in bytes (InBytes), what is told of it
-- as a verdict (Told), how far bytes are read (Reached), and that they have one verdict (OneVerdict); bytes that are too
-- many (Longer), and what answers promise of runs (SoundChecks).
pub mod Sourced
pub mod InBytes
pub mod Told
pub mod Reached
pub mod OneVerdict
pub mod Longer
pub mod SoundChecks
pub mod low
