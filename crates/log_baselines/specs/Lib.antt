-- What is read of a log (Logs), by what results of two logs match (Keys), what suppresses a result (Suppressions), what
-- a result becomes (Results), where it stands then (Standings), the log that comes out (Baselines), and why there is
-- none (Causes).
pub mod Baselines
pub mod Causes
pub mod Keys
pub mod Logs
pub mod Results
pub mod Standings
pub mod Suppressions
pub mod reading
