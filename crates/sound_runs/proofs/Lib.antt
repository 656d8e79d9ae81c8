-- What leaves nodes (Ways), where runs of configured graphs stand (Stood), that they run along the next actions of
-- tasks (Lowered), and where addresses are kept (KindSteps); over what is read of a layout (Readings), and of the layout of
-- a typed file (Layouts). Sets of mutexes (MutexSets), the actions of a task in a run as steps of the theorem's worlds
-- (Moved, Acted), what worlds keep (Sizes, Starts), and why steps stop (Halted). All reached worlds are the theorem's
-- (Imaged), and what occurs is listed (Listed), also without an initial section (WithoutSection), for
-- every analysis of a file (Programs). What is known of all reached worlds (Known).
pub mod Ways
pub mod Stood
pub mod Lowered
pub mod KindSteps
pub mod Readings
pub mod Layouts
pub mod MutexSets
pub mod Moved
pub mod Acted
pub mod Sizes
pub mod Starts
pub mod Halted
pub mod Imaged
pub mod Listed
pub mod WithoutSection
pub mod Programs
pub mod Known
pub mod low
