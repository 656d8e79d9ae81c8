-- Lists and lists in lists (Lists), what is found by halving (Search), points and which of them race (Racing), accesses
-- that race with the same ones (Same); what the accesses of tasks tell of groups (Exact), and that partners are so both
-- ways (Back).
pub mod Lists
pub mod Search
pub mod Racing
pub mod Same
pub mod Exact
pub mod Back
