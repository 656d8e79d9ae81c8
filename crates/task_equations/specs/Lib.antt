-- What the equations of a body are made of (Bodies), the equations (Equations), what a body keeps (Premises), and
-- bodies of configured graphs (Configured).
-- The crates below, passed on to those above.
pub use Rattle.table_covers.specs as table_covers
pub use Rattle.mutex_configs.specs as mutex_configs
pub use Rattle.state_fits.specs as state_fits
pub use Rattle.state_fits.specs.temporary_extents
pub use Rattle.state_fits.specs.temporary_types
pub use Rattle.state_fits.specs.typed_values
pub use Rattle.state_fits.specs.value_heights
pub mod Bodies
pub mod Equations
pub mod Premises
pub mod Configured
pub mod laws
