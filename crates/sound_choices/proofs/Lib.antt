-- What the list of assumptions promises holds (Kept). What a task does next where it comes to an access (Accessed), and what
-- of it the store has (Written); so the list has what runs load, store and compare (Touched), operands that wait (Waited),
-- loads of what was never stored (Unset), and lives that begin while a pointer is left over (Begun): in one (Listed).
-- Negative numbers in enumerations (Enumerated).
pub mod Kept
pub mod Accessed
pub mod Written
pub mod Touched
pub mod Waited
pub mod Unset
pub mod Begun
pub mod Listed
pub mod Enumerated
