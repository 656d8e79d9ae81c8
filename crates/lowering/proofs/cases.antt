pub mod Rows
mod Assignments
mod Conditions
mod Loops
mod Forever
mod Switches
mod Calls
mod Arrays
mod Locals
mod Mutexes
mod Section
mod Operators
mod Constants
mod Returns
