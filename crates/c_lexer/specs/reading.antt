-- What the code of the lexer keeps beside the definitions of the lexis: no clause of a public call names it.
pub mod Kept
pub mod OpenComments
pub mod Quotes
pub mod Refused
pub mod Runs
pub mod Starts
