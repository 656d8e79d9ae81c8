pub mod BodyPieces
pub mod PathPieces
pub mod WaitingItems
pub mod WaitingPaths
pub mod GraphPieces
pub mod KnownSizes
