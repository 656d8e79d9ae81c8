-- What is left open at a place (Choices); what the text leaves open (Texts), with the names of the library (Library);
-- what initialisers of static storage do (AddressConstants, Initialisers); and the whole (Lists).
-- The crates below, passed on to those above.
pub use Rattle.part_extents.specs as part_extents
pub mod Choices
pub mod Library
pub mod Texts
pub mod AddressConstants
pub mod Initialisers
pub mod Enumerations
pub mod Lists
pub mod reading
