-- The requests of copies (Copies), and those of the first tasks (Bodies).
pub mod Copies
pub mod Bodies
