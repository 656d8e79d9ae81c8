-- The law is of words of the crates below.
-- The crates below, passed on to those above.
pub use Rattle.sound_runs.specs as sound_runs
