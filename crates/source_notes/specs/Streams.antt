-- What notes on the source of a stream do to that stream and to the one that takes them.
use Rattle.std.specs.Prelude.{◌≡◌, ◌≢◌, ℕ, List, Option}
use Rattle.tm_io.specs.Faults.{Rose}
use Rattle.tm_laid.specs.declared.scales.Scale.{Scale}
use Rattle.program_streams.specs.declared.statuses.Status.{Status}
use Rattle.program_streams.specs.declared.statuses.Status.TheVariants.{ReadFault, WriteFault}
use Rattle.program_streams.specs.Statuses.{IsWhole}
use Rattle.program_streams.specs.Streams.{IsReadOut}
use Rattle.program_streams.specs.Taken.{Answers, TakesNoMore}
use Rattle.source_programs.specs.LaidSources.{longest_on}
use Rattle.source_notes.specs.declared.answers.Note.{Note}
use Rattle.source_notes.specs.Notes.{HasNotes}

-- What the source has left, what the sink has taken, and how often each has failed: before the call, and after it.
--
-- Status 0 or 1 of the report: that of the least solution, which lists each error that occurs in a run of the
-- source. Status 0 or 1 of rings: for each place of a circular wait of the least solution a shortest ring that
-- begins there; and in each world that a run reaches and that has not stopped, each task of each ring of blocked
-- tasks is about to lock at one of these places. Status 0 or 1 of races: the objects with races in the least
-- solution, each with all accesses to it, under the mutexes that are held there in a run; those that race stand
-- exactly where the report has a race, and both sides of each race that a run comes to are among them. Status 0 or
-- 1 of alarms: those that the report has besides, each with the operation, and the least sets that have all values
-- of its operands in the states of the least solution in which its class is not excluded; wherever a run stops with
-- an error, one of them tells it, with the values there in these sets. Status 0 or 1 of causes: for each of these
-- alarms one advice, of which nothing else is promised. Status 0 or 1 of all notes: the whole report, the races and
-- alarms with it, and the bounds of objects and the dead places. Status 2: the refusal, on the scale.
pub record IsTold (scale : Scale) (note : Note) (left left' taken taken' : Option (List ℕ))
    (reads reads' writes writes' : ℕ) (result : Status) : Type 0 where
  pub whole : IsWhole result → Answers (HasNotes scale note) left taken taken' result
  -- Whatever comes, the sink has taken nothing, or a front of such a text.
  pub front : TakesNoMore (HasNotes scale note) left taken taken'
  -- All that the source has left is read, unless it is too long on the scale.
  pub all : IsWhole result → IsReadOut (longest_on scale) left left'
  -- A fault comes exactly where a count of faults rose. After a read fault nothing is taken.
  pub read : result ≡ ReadFault → Rose reads reads' × (taken' ≡ taken)
  pub write : result ≡ WriteFault → Rose writes writes'
  pub source_faults : result ≢ ReadFault → reads' ≡ reads
  pub sink_faults : result ≢ WriteFault → writes' ≡ writes
