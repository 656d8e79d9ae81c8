-- Lists in lists (Lists), pairs of numbers in order (Pairs), marks of numbers (Marks), a body as the code reads it
-- (Views), the lives of objects (Scopes), what edges touch (Touches), and what two operands do (Operands).
pub mod Lists
pub mod Pairs
pub mod Marks
pub mod Views
pub mod Scopes
pub mod Touches
pub mod Operands
