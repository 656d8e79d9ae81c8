pub mod PlacedCells
