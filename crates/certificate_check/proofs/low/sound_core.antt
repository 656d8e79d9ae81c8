-- The crates below, passed on to those above.
pub use Rattle.sound_core.proofs.Rings
pub use Rattle.sound_core.proofs.Within
pub use Rattle.sound_core.proofs.Reached
