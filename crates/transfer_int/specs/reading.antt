-- What private functions ask of rows, parts, divisors and counts: no clause of a public call names these.
pub mod Comparisons
pub mod Fittings
pub mod Parts
pub mod Quotients
pub mod Remainders
pub mod Shifts
