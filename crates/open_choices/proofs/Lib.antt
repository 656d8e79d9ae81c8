pub mod ChoiceLists
pub mod Searching
mod Copies
mod Entries
mod Numbers
mod Unsets
mod Marked
mod ChoiceOrder
mod Enumerated
mod Whole
mod BodyFacts
mod Runs
mod Leftover
mod Others
mod Rising
mod Tables
mod Standing
mod Additions
mod Moving
