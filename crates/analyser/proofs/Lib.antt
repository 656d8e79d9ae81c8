-- Answers to bytes (AnswerLemmas); from the answer of a command to that of words (CommandLemmas),
-- which ask for 1 to 16 workers, or for none (AskedWorkers); the lines of histories (HistoryLines); a source has one
-- report (OneReport), in which each error stands (Sound), and that is what the answer to `analyse` promises of runs
-- (SoundAnswers).
pub mod AnswerLemmas
pub mod CommandLemmas
pub mod AskedWorkers
pub mod HistoryLines
pub mod OneReport
pub mod Sound
pub mod SoundAnswers
