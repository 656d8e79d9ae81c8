-- Worlds of programs, as the code holds them (Views, Held), what they stand on (Lawful) and where their tasks stand
-- (Running), the places that race (Races), which layouts have worlds (Laws), and what the code computes (reading).
pub mod Held
pub mod Lawful
pub mod Views
pub mod Running
pub mod Races
pub mod Laws
pub mod reading
