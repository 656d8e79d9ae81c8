-- Two least solutions agree (Agreeing) and have one report (OneReport); passes in turn (Turning), their tables as a pair
-- (Completing), and its report (Reporting).
pub mod Agreeing
pub mod OneReport
pub mod Turning
pub mod Completing
pub mod Reporting
