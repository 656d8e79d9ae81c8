mod Edges
mod Meaning
mod Scopes
mod Calculations
mod Forms
mod CompoundForms
mod StepForms
mod TableLaw
mod Pendings
mod Dead
mod Moves
mod Renamed
mod Expressions
mod StatementParts
mod Statements
mod Loops
mod Switches
mod StatementLaw
pub mod Bodies
pub mod Demands
mod TableDemands
pub mod GraphDemands
pub mod Own
mod cases
pub mod low
