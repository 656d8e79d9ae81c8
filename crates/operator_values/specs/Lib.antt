-- The operators on strided sets (Integers), on sets of pointers (SetsOfPointers) and the meet of values (MetValues), as
-- functions; and the classes of errors that they do not exclude, as tests (Classes).
-- The crates below, passed on to those above.
pub use Rattle.filters.specs as filters
pub use Rattle.filters.specs.pointer_dom
pub use Rattle.filters.specs.strided_dom
pub use Rattle.transfer_int.specs as transfer_int
pub mod Classes
pub mod Integers
pub mod MetValues
pub mod SetsOfPointers
pub mod laws
