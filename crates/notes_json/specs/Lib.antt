-- Notes as JSON: pieces (Pieces) and words of C (Words), tasks, mutexes and objects (Names), values of operands
-- (Operands), what operations depend on (Operations), accesses and requests (Accesses), and alarms (Alarms).
pub mod Pieces
pub mod Words
pub mod Names
pub mod Operands
pub mod Operations
pub mod Accesses
pub mod Alarms
pub mod reading
