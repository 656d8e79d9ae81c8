-- Which unit a line stands in, and marks that stand nowhere (Units); what becomes of tokens (Fates); what tokens say
-- (Sayings).
pub mod Fates
pub mod Sayings
pub mod Units
