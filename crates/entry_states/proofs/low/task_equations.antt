-- The crates below, passed on to those above.
pub use Rattle.body_systems.proofs.low.task_equations.ConfiguredBodies
pub use Rattle.body_systems.proofs.low.task_equations.PlacesOfBodies
