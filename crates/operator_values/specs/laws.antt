-- What definitions must cite: lists of integers with a property (Listings), properties that have a strided set (Sets),
-- that each row of an operator has one (RowSets), tables of offsets (OffsetTables), results on sets of pointers
-- (PointerResults), and tests (Comparisons, ClassTests).
pub mod ClassTests
pub mod Comparisons
pub mod Listings
pub mod OffsetTables
pub mod PointerResults
pub mod RowSets
pub mod Sets
