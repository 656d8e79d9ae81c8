-- What a source is answered, and what that promises of its runs (Findings); its refusal on a scale (RefusalTexts); its
-- certificate (Certificates); what is told of a least solution, before it is known of which source it is (Tellings).
-- The crates below, passed on to those above.
pub use Rattle.certificate_check.specs as certificate_check
pub use Rattle.certificate_check.specs.sound_core
pub mod Findings
pub mod RefusalTexts
pub mod Certificates
pub mod Tellings
