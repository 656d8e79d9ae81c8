-- Which requests for mutexes the tables of a program have, and which places are listed.
-- The crate below, passed on to those above.
pub use Rattle.request_circles.specs as request_circles
pub mod Waits
pub mod reading
