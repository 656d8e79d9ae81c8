-- What the laws say.
-- The crates below, passed on to those above.
pub use Rattle.typing_laws.specs as typing_laws
pub mod Tables
pub mod Lawful
pub mod Bodies
pub mod LawfulFiles
pub mod Layouts
pub mod TypedBodies
pub mod Mentions
pub mod Sites
