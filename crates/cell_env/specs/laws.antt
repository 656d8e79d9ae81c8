pub mod Bits
pub mod CellLaws
pub mod Codes
pub mod StateLaws
pub mod TempLaws
