-- The crates below, passed on to those above.
pub use Rattle.lowering.specs.concrete_steps
pub use Rattle.lowering.specs as lowering
pub mod Fragments
pub mod Placing
pub mod reading
