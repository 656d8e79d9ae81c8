-- The text of a certificate: the words of values (ValueWords), the lines of states (StateLines), tables (TableLines) and
-- stores (StoreLines), the whole text and where the source stands in it (Certificates), and how long it may be (Limits);
-- and how the code stops there (reading).
-- The crates below, passed on to those above.
pub use Rattle.certificate_words.specs as certificate_words
pub use Rattle.post_recheck.specs as post_recheck
pub mod ValueWords
pub mod StateLines
pub mod TableLines
pub mod StoreLines
pub mod Limits
pub mod Sizes
pub mod Certificates
pub mod reading
