-- The definitions tried on a small program (Examples), and on one whose task does nothing (IdleTask).
mod Examples
mod IdleTask
pub mod low
