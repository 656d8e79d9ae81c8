-- What the code tells of a least solution, before it is known of which source it is.
use Rattle.std.specs.Prelude.{◌≡◌, ℕ, List, length}
use Rattle.tm_terms.specs.declared.tokens.Name.{Name}
use Rattle.worker_solutions.specs.program_equations.Programs.{ProgramBodies}
use Rattle.worker_solutions.specs.program_equations.Solutions.{tables_of}
use Rattle.worker_solutions.specs.program_solutions.post_recheck.Pairs.{Pair}
use Rattle.request_circles.specs.declared.rings.Ring.{Ring}
use Rattle.lock_waits.specs.Waits.{AreRings}
use Rattle.access_groups.specs.declared.object_access.AccessGroup.{AccessGroup}
use Rattle.access_groups.specs.Groups.{AreGroups}
use Rattle.alarm_contexts.specs.declared.alarm_context.AlarmContexts.{AlarmContexts}
use Rattle.alarm_contexts.specs.Contexts.{AreContexts}
use Rattle.program_streams.specs.declared.statuses.Status.{Status}
use Rattle.program_reports.specs.Reports.{IsReport}
use Rattle.value_ranges.specs.Ranges.{AreRanges, AreCellRanges}
use Rattle.access_partners.specs.Partners.{AreAllDetails}
use Rattle.value_ranges.specs.Places.{AreDead}
use Rattle.program_notes.specs.NotesTexts.{notes_text}
use Rattle.program_notes.specs.declared.declarations.Declared.{Declared}
use Rattle.program_notes.specs.declared.noted.Contents.{Contents}
use Rattle.source_notes.specs.Notes.{rings_status, races_status, alarms_status, report_status, TellPartners}
use Rattle.note_lines.specs.RingTexts.{rings_text}
use Rattle.note_lines.specs.RaceTexts.{groups_text}
use Rattle.note_lines.specs.AlarmTexts.{alarms_text}
use Rattle.note_lines.specs.CauseTexts.{causes_text}
use Rattle.alarm_causes.specs.declared.advices.Advice.{Advice}
use Rattle.alarm_causes.specs.Advised.{AreAdvised}
use Rattle.program_notes.specs.Operations.{operation_of}
use Rattle.note_lines.specs.declared.names.Names.{Names}
use Rattle.note_lines.specs.declared.names.ObjectName.{ObjectName}

pub record TellsRingsOf (p : ProgramBodies) (bytes : List ℕ) (tasks mutexes : List Name) (pair : Pair)
    (status : Status) (text : List ℕ) : Type 0 where
  pub rings : List Ring
  pub are : AreRings p (tables_of pair.tables) rings
  pub comes : status ≡ rings_status rings
  pub is : text ≡ rings_text bytes tasks mutexes rings

pub record TellsRacesOf (p : ProgramBodies) (bytes : List ℕ) (objects : List ObjectName) (tasks mutexes : List Name)
    (pair : Pair) (status : Status) (text : List ℕ) : Type 0 where
  pub groups : List AccessGroup
  pub are : AreGroups p (tables_of pair.tables) groups
  pub comes : status ≡ races_status groups
  pub is : text ≡ groups_text bytes objects tasks mutexes groups

pub record TellsAlarmsOf (p : ProgramBodies) (bytes : List ℕ) (names : Names) (pair : Pair) (status : Status)
    (text : List ℕ) : Type 0 where
  pub alarms : List AlarmContexts
  pub are : AreContexts p (tables_of pair.tables) alarms
  pub comes : status ≡ alarms_status alarms
  pub is : text ≡ alarms_text bytes names.objects.items names.tasks.items names.priorities.items names.mutexes.items
      (operation_of p) alarms

pub record TellsCausesOf (p : ProgramBodies) (bytes : List ℕ) (names : Names) (pair : Pair) (status : Status)
    (text : List ℕ) : Type 0 where
  pub alarms : List AlarmContexts
  pub are : AreContexts p (tables_of pair.tables) alarms
  pub groups : List AccessGroup
  pub grouped : AreGroups p (tables_of pair.tables) groups
  pub advices : List Advice
  pub advised : AreAdvised (length groups) alarms advices
  pub comes : status ≡ alarms_status alarms
  pub is : text ≡ causes_text bytes names.objects.items names.tasks.items (operation_of p) alarms advices

-- what the tables and the store tell
pub record AreContents (p : ProgramBodies) (pair : Pair) (c : Contents) : Type 0 where
  pub report : (let r = c.report in IsReport p (tables_of pair.tables) r.alarms.items)
  pub others : AreContexts p (tables_of pair.tables) c.others.items
  pub groups : AreGroups p (tables_of pair.tables) c.groups.items
  pub accesses : AreAllDetails p (tables_of pair.tables) c.groups.items c.accesses.items
  pub raced : (let r = c.report in let d = c.details in
      TellPartners r.alarms.items c.groups.items c.accesses.items d.alarms.items)
  pub bounds : (let r = c.ranges in AreRanges p (tables_of pair.tables) pair.store r.bounds.items)
  pub cells : AreCellRanges p (tables_of pair.tables) pair.store c.cells.items
  pub dead : (let r = c.ranges in AreDead p (tables_of pair.tables) r.dead.items)

pub record TellsNotesOf (p : ProgramBodies) (bytes : List ℕ) (declared : Declared) (pair : Pair) (status : Status)
    (text : List ℕ) : Type 0 where
  pub contents : Contents
  pub are : AreContents p pair contents
  pub comes : (let r = contents.report in status ≡ report_status r.alarms.items)
  pub is : text ≡ notes_text bytes declared (operation_of p) contents
