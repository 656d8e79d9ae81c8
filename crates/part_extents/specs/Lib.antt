-- The parts of an object, from the whole down to a cell (Parts). The crates below, passed on to those above.
pub use Rattle.source_names.specs as source_names
pub mod Parts
pub mod reading
