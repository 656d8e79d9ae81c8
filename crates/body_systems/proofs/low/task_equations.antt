-- The crates below, passed on to those above.
pub use Rattle.task_equations.proofs.ConfiguredBodies
pub use Rattle.task_equations.proofs.PlacesOfBodies
