pub mod Frame
pub mod WellTypedRules
pub mod WellTypedMore
pub mod WellTypedWhole
pub mod WellTypedGrowth
pub mod low
