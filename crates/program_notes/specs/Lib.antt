-- What a program declares (Declarations) and how it stands in notes (Lists, and with bounds ObjectTexts); alarms
-- (AlarmTexts) with their contexts (ContextTexts), operands (OperandTexts), call paths (Paths), operations
-- (Operations), edges (Edges) and flaws (Flaws); races by object (GroupTexts) with the mutexes that guard these
-- (Guards); all of it (NotesTexts), and lists as they are made one by one (reading).
pub mod Declarations
pub mod Lists
pub mod ObjectTexts
pub mod Operations
pub mod Edges
pub mod Flaws
pub mod OperandTexts
pub mod Paths
pub mod ContextTexts
pub mod AlarmTexts
pub mod Guards
pub mod GroupTexts
pub mod NotesTexts
pub mod reading
