-- What ghost members must cite: hulls and roundings exist, the laws of lattices hold, and sets are told apart by codes.
pub mod Existence
pub mod OffsetLaws
pub mod PointerLaws
pub mod ValueLaws
pub mod Codes
