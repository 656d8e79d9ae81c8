-- Where runs come, and what the contexts of alarms tell of that (Passes).
pub mod Passes
