-- What the soundness of the report stands on (Sound), and what a report promises (Soundness); what is known of each world
-- that a run reaches (Known): rings of tasks that wait for each other (Rings), what cells hold (Ranges), where somebody
-- acts (Places), what tasks are about to access (Accesses), and where they stop (Stops).
-- The crates below, passed on to those above.
pub use Rattle.sound_tables.specs.concrete_steps
pub mod Sound
pub mod Soundness
pub mod Known
pub mod Rings
pub mod Ranges
pub mod Places
pub mod Accesses
pub mod Stops
