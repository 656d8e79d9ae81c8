-- The source in a certificate (Heads), and which bytes are certificates (Certificates); what may be said of them
-- (Verdicts), with which text and status (VerdictTexts), what that promises of runs (Soundness), and what is proved of it
-- (Laws); what the code finds on the way (reading).
-- The crates below, passed on to those above.
pub use Rattle.certificate_texts.specs as certificate_texts
pub use Rattle.sound_core.specs as sound_core
pub use Rattle.source_programs.specs as source_programs
pub mod Heads
pub mod Certificates
pub mod Verdicts
pub mod VerdictTexts
pub mod Soundness
pub mod Laws
pub mod reading
