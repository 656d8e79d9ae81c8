pub mod Tests
pub mod Positions
pub mod Same
