-- Values are read from their words (ValuesRead), and their lines key by key (RowsOfValues). Rising lists with the same
-- members (StateKeys); the lists of a state (StateLists), the entries that lists make (StateCells), and what leads from
-- a state to its lists and back (StateParts). Lists of rising numbers (NumbersOf), and the shape of a body (ShapesMade).
-- What stands one behind the other in a text (Sequences), and so the six lists of a state (StateRuns). States are put
-- together entry by entry (Assembling), and over the cells of others (PuttingOver); their cells are read line by line, or
-- kept ones again (RowsAgain, CellsRead); and states are read by their lists (StateRead). What is known of a case (Matches); lines of
-- one tag are no lines of another (FirstLetters). Nested tables and their entries one after another (Nested), tables
-- that grow at their ends (Rising), the entry of a line (EntriesRead), and stores (StoresRead). Rows by rising numbers
-- (SeriesRead), layouts of which the equations read the same (SameLayouts), tables (TablesRead), those of bodies
-- (BodiesRead); texts that are let go of as they are read (HeldTexts); and pairs (PairsRead).
pub mod ValuesRead
pub mod RowsOfValues
pub mod StateKeys
pub mod StateLists
pub mod StateCells
pub mod StateParts
pub mod NumbersOf
pub mod ShapesMade
pub mod Sequences
pub mod StateRuns
pub mod Assembling
pub mod RowsAgain
pub mod PuttingOver
pub mod CellsRead
pub mod StateRead
pub mod Matches
pub mod FirstLetters
pub mod Nested
pub mod Rising
pub mod EntriesRead
pub mod StoresRead
pub mod SeriesRead
pub mod SameLayouts
pub mod TablesRead
pub mod BodiesRead
pub mod HeldTexts
pub mod PairsRead
