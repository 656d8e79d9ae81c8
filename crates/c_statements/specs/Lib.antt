-- What the code holds of statements (Views), and how it reads the block of a `switch`.
pub mod Views
pub mod reading
