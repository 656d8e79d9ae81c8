-- The form in which a call says what it does to the state of typing.
pub mod Steps
