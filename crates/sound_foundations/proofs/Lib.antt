-- What the graphs of files keep (Founded), and which temporaries are told to hold pointers (Truths).
pub mod Founded
pub mod Truths
pub mod low
