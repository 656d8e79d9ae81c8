pub mod Common
pub mod Effects
pub mod LiveTemps
pub mod low
