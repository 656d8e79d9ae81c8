-- What is noted of the edges of bodies (Bodies). The crates below, passed on to those above.
pub use Rattle.path_origins.specs as path_origins
pub mod Bodies
-- How what is noted of paths is put together.
pub mod reading
