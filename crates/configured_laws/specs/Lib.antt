-- That each layout of a typed file has a program or exceeds a limit (Laws).
-- The crates below, passed on to those above.
pub use Rattle.region_cells.specs as region_cells
pub mod Laws
