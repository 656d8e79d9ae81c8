-- Names (Names), the texts of rings (RingTexts) and of races (RaceTexts), those of alarms (AlarmTexts) with their
-- operations (OperationWords) and operands (OperandTexts), and those of advice on alarms (CauseTexts).
pub mod Names
pub mod RingTexts
pub mod RaceTexts
pub mod OperationWords
pub mod OperandTexts
pub mod AlarmTexts
pub mod CauseTexts
