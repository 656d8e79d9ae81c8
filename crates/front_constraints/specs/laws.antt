pub mod Cut
pub mod Lawful
pub mod LeastFronts
pub mod Options
pub mod Solved
pub mod StandingLaws
