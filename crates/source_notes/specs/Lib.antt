-- Several texts as one (PartTexts), what is answered to a source (Notes) and to a stream (Streams), which words ask for
-- that (Words), and what the code finds, and tells of a solution before it is known of which source it is (reading).
-- The crate below, passed on to those above.
pub use Rattle.source_findings.specs as source_findings
pub mod PartTexts
pub mod Notes
pub mod Streams
pub mod Words
pub mod reading
