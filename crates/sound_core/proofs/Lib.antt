-- The bodies of a file (FileBodies), every error of a run is an alarm (Alarmed), and what graphs (Graphs) and layouts
-- (Cells) keep for the tables; what cells hold at the start (Starting), and
-- that abstract cells stand for cells (Hits); which operations there are (Regular). What is known of each world that a
-- run reaches (Known): circles of tasks that wait (Circles) and rings (Rings), what cells hold (Contents), within
-- which bounds (Within), and where somebody acts (Reached); the edge for what a task does next (NextEdges), what is
-- accessed then (ListedAccesses), and where groups tell it (GroupedAccesses); where it stops (ListedStops), and what
-- contexts tell of that (ToldStops).
pub mod FileBodies
pub mod Alarmed
pub mod Graphs
pub mod Cells
pub mod Starting
pub mod Hits
pub mod Regular
pub mod Known
pub mod Circles
pub mod Rings
pub mod Contents
pub mod Within
pub mod Reached
pub mod Listed
pub mod NextEdges
pub mod ListedAccesses
pub mod GroupedAccesses
pub mod ListedStops
pub mod ToldStops
