-- What is known of the first line of a text (Fronting), sets of numbers (SetsRead), rows of keys (Running), entries
-- whose keys rise (Rising), objects (ObjectsRead), lines that may stand for keys (RowsRead, NumbersRead), and pointers (PointersRead).
pub mod Fronting
pub mod SetsRead
pub mod Running
pub mod Rising
pub mod ObjectsRead
pub mod RowsRead
pub mod PointersRead
pub mod NumbersRead
