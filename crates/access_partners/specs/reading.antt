-- What the accesses of tasks tell of an object's accesses (Accesses), how that is found (Search, Points), what is found
-- of partners (Pairs), and all that is found of groups (Found).
pub mod Accesses
pub mod Search
pub mod Points
pub mod Pairs
pub mod Found
