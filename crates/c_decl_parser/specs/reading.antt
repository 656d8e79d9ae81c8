-- What the code computes, as recursive functions on lists of tokens, and how its types are seen as what these give.
pub mod DeclarationDescent
pub mod Openings
pub mod Parts
pub mod Repetitions
