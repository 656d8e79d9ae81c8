-- The form of advice on alarms.
-- The crate below, passed on to those above.
pub use Rattle.alarm_contexts.specs as alarm_contexts
pub mod Advised
