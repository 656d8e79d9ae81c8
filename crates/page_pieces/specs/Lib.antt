pub mod Composed
pub mod Laws
pub mod Markup
pub mod Pieces
