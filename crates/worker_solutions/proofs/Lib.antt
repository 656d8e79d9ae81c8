-- Histories of an analysis are those of its program (Legal), and a quiet one ends in least tables (QuietCores), which
-- come one by one (EachTable).
pub mod Legal
pub mod QuietCores
pub mod EachTable
pub mod low
