-- Facts of bodies in order (FactsInOrder), programs as their bodies (Bodies), their equations (SystemsOfBodies), and
-- where tasks begin (TaskEntries).
mod FactsInOrder
pub mod Bodies
pub mod SystemsOfBodies
pub mod TaskEntries
pub mod low
