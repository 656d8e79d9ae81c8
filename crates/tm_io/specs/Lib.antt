-- Devices in memory (Calls), and when a source (Faults) and a sink (Stops) may say that they fail.
pub mod Calls
pub mod Faults
pub mod Stops
