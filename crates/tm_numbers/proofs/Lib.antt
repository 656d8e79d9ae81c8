pub mod Congruences
pub mod Divisibility
pub mod Gcds
pub mod Integers
