-- Lists with one more element (Elements), pairs in order (Halving), marks (Lasts), copies and states of edges (Copies),
-- lives of objects (Lives), what edges touch (Touching), least values above others (Above), and two operands (Pairing).
pub mod Elements
pub mod Halving
pub mod Lasts
pub mod Copies
pub mod Lives
pub mod Ranges
pub mod Touching
pub mod Above
pub mod Leaving
pub mod Pairing
pub mod Joining
pub mod MoreRead
pub mod Places
