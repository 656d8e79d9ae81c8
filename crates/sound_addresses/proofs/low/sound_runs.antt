-- The crates below, passed on to those above.
pub use Rattle.sound_runs.proofs.Halted
pub use Rattle.sound_runs.proofs.Imaged
pub use Rattle.sound_runs.proofs.Known
pub use Rattle.sound_runs.proofs.Layouts
pub use Rattle.sound_runs.proofs.Moved
pub use Rattle.sound_runs.proofs.MutexSets
pub use Rattle.sound_runs.proofs.Programs
pub use Rattle.sound_runs.proofs.Starts
