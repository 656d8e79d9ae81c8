-- What the code finds in one object (Spans).
pub mod Spans
