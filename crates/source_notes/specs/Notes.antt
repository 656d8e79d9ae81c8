-- What is answered to a source on a scale: its report, the rings in which its tasks may come to wait for each other,
-- its races by object, its other alarms and what they stand on, advice on these, the whole notes on all alarms, the
-- list of its assumptions, or each as a text of its own.
use Rattle.std.specs.Prelude.{◌≡◌, ◌↔◌, ℕ, List, [], ◌∷◌, ◌++◌, map, length, Contains, Option, codes}
use Rattle.std.specs.declared.vec.Vec.{Vec}
use Rattle.std.specs.declared.alloc.Global.{Global}
use Rattle.tm_cint.specs.declared.Class.{Class}
use Rattle.tm_cint.specs.declared.Class.TheVariants.{Race}
use Rattle.tm_terms.specs.declared.alarms.Alarm.{Alarm}
use Rattle.tm_terms.specs.declared.places.Place.{Place}
use Rattle.tm_terms.specs.declared.refusals.Refusal.{Refusal}
use Rattle.worker_solutions.specs.program_equations.Solutions.{tables_of}
use Rattle.request_circles.specs.declared.rings.Ring.{Ring}
use Rattle.request_circles.specs.Rings.{ring_places}
use Rattle.lock_waits.specs.Waits.{AreRings}
use Rattle.program_reports.specs.Reports.{IsReport}
use Rattle.access_groups.specs.declared.object_access.AccessGroup.{AccessGroup}
use Rattle.access_groups.specs.Groups.{AreGroups, HasRacingAt}
use Rattle.access_partners.specs.declared.details.AccessDetails.{AccessDetails}
use Rattle.access_partners.specs.Partners.{AreAllDetails}
use Rattle.note_details.specs.declared.alarms.AlarmDetails.{AlarmDetails}
use Rattle.note_details.specs.Races.{accesses_of, told_of, races_seen}
use Rattle.note_details.specs.Details.{races_of}
use Rattle.value_ranges.specs.declared.object_bounds.ObjectBounds.{ObjectBounds}
use Rattle.value_ranges.specs.Ranges.{AreCellRanges}
use Rattle.alarm_contexts.specs.declared.alarm_context.AlarmContexts.{AlarmContexts}
use Rattle.alarm_contexts.specs.Contexts.{AreContexts, HasAlarm, alarm_of}
use Rattle.tm_laid.specs.declared.scales.Scale.{Scale}
use Rattle.tm_laid.specs.Layouts.{LaidTree}
use Rattle.source_programs.specs.LaidSources.{IsLaidSourceOn}
use Rattle.source_programs.specs.Sources.{IsRefusedOn}
use Rattle.program_streams.specs.declared.statuses.Status.{Status}
use Rattle.program_streams.specs.declared.statuses.Status.TheVariants.{NoAlarm, Alarms, Refused, Usage, ReadFault}
use Rattle.program_streams.specs.declared.statuses.Status.TheVariants.{WriteFault, NoMemory}
use Rattle.sound_core.specs.Soundness.{ListsAll}
use Rattle.sound_core.specs.Accesses.{ListsAccesses}
use Rattle.sound_core.specs.Stops.{ListsStops}
use Rattle.sound_core.specs.Ranges.{StayWithinCells}
use Rattle.sound_notes.specs.Passes.{ListsOperands, EndsAlways, StopsThere}
use Rattle.report_json.specs.JsonReports.{json_text}
use Rattle.source_findings.specs.Findings.{SolvesOn, ListsRings, FindsRangesOn, TellsWaitsOn, TellsRangesOn}
use Rattle.source_findings.specs.RefusalTexts.{refusal_text_on}
use Rattle.source_assumptions.specs.Lists.{TellsAssumptions}
use Rattle.program_notes.specs.Declarations.{runners_of, mutexes_of, objects_of}
use Rattle.program_notes.specs.AlarmTexts.{other_alarms}
use Rattle.program_notes.specs.NotesTexts.{notes_text}
use Rattle.program_notes.specs.declared.declarations.Declared.{Declared}
use Rattle.program_notes.specs.declared.noted.Contents.{Contents}
use Rattle.note_lines.specs.Names.{task_names, task_priorities, mutex_names, object_names}
use Rattle.note_lines.specs.RingTexts.{rings_text}
use Rattle.note_lines.specs.RaceTexts.{groups_text}
use Rattle.note_lines.specs.AlarmTexts.{alarms_text}
use Rattle.note_lines.specs.CauseTexts.{causes_text}
use Rattle.alarm_causes.specs.declared.advices.Advice.{Advice}
use Rattle.alarm_causes.specs.Advised.{AreAdvised}
use Rattle.source_notes.specs.PartTexts.{Part, shown}
use Rattle.program_notes.specs.Operations.{operation_of}
use Rattle.source_notes.specs.declared.answers.Note.{Note}
use Rattle.source_notes.specs.declared.answers.Note.TheVariants.{Report, Rings, Races, Alarms as Others, Causes}
use Rattle.source_notes.specs.declared.answers.Note.TheVariants.{Whole, Assumptions, Parts}

-- ## Rings

-- For each place of a circular wait of the least solution a shortest ring that begins there; and in each world that a
-- run reaches and that has not stopped, each task of each ring of blocked tasks is about to lock at one of
-- these places.
pub record FindsRings (scale : Scale) (bytes : List ℕ) (rings : List Ring) : Type 0 where
  pub solves : SolvesOn scale bytes
  pub are : (let s = solves in let pair = s.pair in AreRings s.program (tables_of pair.tables) rings)
  pub blocked : (let s = solves in let a = s.accepted in ListsRings a.laid (ring_places rings))

-- whether there are any
abbrev pub rings_status : List Ring → Status
rings_status [] = NoAlarm
rings_status (ring ∷ rings) = Alarms

pub record TellsRings (scale : Scale) (bytes : List ℕ) (status : Status) (text : List ℕ) : Type 0 where
  pub rings : List Ring
  pub finds : FindsRings scale bytes rings
  pub comes : status ≡ rings_status rings
  pub laid : LaidTree
  pub of : IsLaidSourceOn scale bytes laid
  pub is : text ≡ rings_text bytes (task_names laid) (mutex_names laid) rings

-- ## Races

-- The objects with races in the tables of the least solution, each with all accesses to it, racing or not. Each access
-- that a task is about to make to such an object, in a world that a run reaches, is among them, under exactly the
-- mutexes that the task holds, and both sides of each race are, as ones that race; and the report of these tables,
-- which lists each error that occurs in a run, has a race at exactly the places of those that race.
pub record FindsRaces (scale : Scale) (bytes : List ℕ) (groups : List AccessGroup) : Type 0 where
  pub solves : SolvesOn scale bytes
  pub are : (let s = solves in let pair = s.pair in AreGroups s.program (tables_of pair.tables) groups)
  pub listed : (let s = solves in let a = s.accepted in ListsAccesses a.laid groups)
  pub alarmed : (let s = solves in let pair = s.pair in (report : List Alarm)
      → IsReport s.program (tables_of pair.tables) report → (place : Place)
      → Contains report (record { place = place; class = Race }) ↔ HasRacingAt groups place)

abbrev pub races_status : List AccessGroup → Status
races_status [] = NoAlarm
races_status (group ∷ groups) = Alarms

pub record TellsRaces (scale : Scale) (bytes : List ℕ) (status : Status) (text : List ℕ) : Type 0 where
  pub groups : List AccessGroup
  pub finds : FindsRaces scale bytes groups
  pub comes : status ≡ races_status groups
  pub laid : LaidTree
  pub of : IsLaidSourceOn scale bytes laid
  pub is : text ≡ groups_text bytes (object_names laid) (task_names laid) (mutex_names laid) groups

-- ## Alarms of other classes

-- The alarms in the tables of the least solution, each with its edges and operands, that are not races. Wherever a run
-- stops with an error, one of them tells it: the body that stops stands before one of its edges, with values that lie
-- in its operands. Each time that a run comes before such an edge, where its class is not excluded, its values lie in
-- these operands, whether or not it stops; of an alarm of always none goes on by itself from there; and at a lock or an
-- unlock no step lets it go on. And the report of these tables has of the other classes exactly these.
pub record FindsAlarms (scale : Scale) (bytes : List ℕ) (alarms : List AlarmContexts) : Type 0 where
  pub solves : SolvesOn scale bytes
  pub are : (let s = solves in let pair = s.pair in AreContexts s.program (tables_of pair.tables) alarms)
  pub listed : (let s = solves in let a = s.accepted in ListsStops a.laid s.program alarms)
  pub operands : (let s = solves in let a = s.accepted in let pair = s.pair in
      ListsOperands a.laid s.program (tables_of pair.tables) alarms)
  pub ends : (let s = solves in let a = s.accepted in let pair = s.pair in
      EndsAlways a.laid s.program (tables_of pair.tables) alarms)
  pub stops : (let s = solves in let a = s.accepted in let pair = s.pair in
      (told : AlarmContexts) → StopsThere a.laid s.program (tables_of pair.tables) told)
  pub alarmed : (let s = solves in let pair = s.pair in (report : List Alarm)
      → IsReport s.program (tables_of pair.tables) report → (place : Place) (class : Class) → (class ≡ Race → ⊥)
      → Contains report (record { place = place; class = class }) ↔ HasAlarm alarms place class)

abbrev pub alarms_status : List AlarmContexts → Status
alarms_status [] = NoAlarm
alarms_status (alarm ∷ alarms) = Alarms

pub record TellsAlarms (scale : Scale) (bytes : List ℕ) (status : Status) (text : List ℕ) : Type 0 where
  pub alarms : List AlarmContexts
  pub finds : FindsAlarms scale bytes alarms
  pub comes : status ≡ alarms_status alarms
  pub laid : LaidTree
  pub of : IsLaidSourceOn scale bytes laid
  pub is : (let s = finds.solves in text ≡ alarms_text bytes (object_names laid) (task_names laid)
      (task_priorities laid) (mutex_names laid) (operation_of s.program) alarms)

-- ## All notes

-- the report of a least solution, which lists each error that occurs in a run of the source
pub record FindsReport (scale : Scale) (bytes : List ℕ) (report : List Alarm) : Type 0 where
  pub solves : SolvesOn scale bytes
  pub is : (let s = solves in let pair = s.pair in IsReport s.program (tables_of pair.tables) report)
  pub lists : (let s = solves in let a = s.accepted in ListsAll a.laid report)

-- What each access of an object with races reaches and races with, in the tables of the least solution.
pub record FindsDetails (scale : Scale) (bytes : List ℕ) (groups : List AccessGroup)
    (details : List (Vec AccessDetails Global)) : Type 0 where
  pub solves : SolvesOn scale bytes
  pub are : (let s = solves in let pair = s.pair in AreAllDetails s.program (tables_of pair.tables) groups details)

-- Of each alarm of races the accesses at its place that race are told, in the order of the groups, with what they race
-- with.
abbrev pub TellPartners : List Alarm → List AccessGroup → List (Vec AccessDetails Global) → List AlarmDetails → Type 0
TellPartners report groups accesses alarms =
    map (λ (d : AlarmDetails). races_seen d.accesses) alarms ≡ map (races_of (accesses_of groups) (told_of accesses)) report

-- The bounds of the abstract cells that the tables and the store of the least solution tell; a number that an integer
-- cell of static storage holds in a world that a run reaches lies within those of its abstract cell.
pub record FindsCells (scale : Scale) (bytes : List ℕ) (bounds : List (Option ObjectBounds)) : Type 0 where
  pub solves : SolvesOn scale bytes
  pub are : (let s = solves in let pair = s.pair in
      AreCellRanges s.program (tables_of pair.tables) pair.store bounds)
  pub within : (let s = solves in let a = s.accepted in StayWithinCells a.laid s.program bounds)

-- The report of the least solution, the alarms of it that are not races, in the same order, the races by object with
-- what each access races with, which each alarm of races tells, and the bounds of objects and of cells with the dead
-- places, each with what that promises of runs. Of the other details, as call paths and the names of members, nothing
-- is promised.
pub record FindsNotes (scale : Scale) (bytes : List ℕ) (c : Contents) : Type 0 where
  pub report : (let r = c.report in FindsReport scale bytes r.alarms.items)
  pub others : FindsAlarms scale bytes c.others.items
  pub paired : (let r = c.report in map alarm_of c.others.items ≡ other_alarms r.alarms.items)
  pub groups : FindsRaces scale bytes c.groups.items
  pub accesses : FindsDetails scale bytes c.groups.items c.accesses.items
  pub raced : (let r = c.report in let d = c.details in
      TellPartners r.alarms.items c.groups.items c.accesses.items d.alarms.items)
  pub cells : FindsCells scale bytes c.cells.items
  pub ranges : (let r = c.ranges in FindsRangesOn scale bytes r.bounds.items r.dead.items)

-- whether there is an alarm
abbrev pub report_status : List Alarm → Status
report_status [] = NoAlarm
report_status (alarm ∷ report) = Alarms

-- what a layout declares
pub record Declares (laid : LaidTree) (d : Declared) : Type 0 where
  pub runners : d.runners.items ≡ runners_of laid
  pub mutexes : d.mutexes.items ≡ mutexes_of laid
  pub objects : d.objects.items ≡ objects_of laid

pub record TellsNotes (scale : Scale) (bytes : List ℕ) (status : Status) (text : List ℕ) : Type 0 where
  pub contents : Contents
  pub finds : FindsNotes scale bytes contents
  pub comes : (let r = contents.report in status ≡ report_status r.alarms.items)
  pub laid : LaidTree
  pub of : IsLaidSourceOn scale bytes laid
  pub declared : Declared
  pub declares : Declares laid declared
  pub is : (let o = finds.others in let s = o.solves in
      text ≡ notes_text bytes declared (operation_of s.program) contents)

-- ## Advice

-- The alarms that are not races, and advice on each with these races, of which nothing is promised but its form.
pub record TellsCauses (scale : Scale) (bytes : List ℕ) (status : Status) (text : List ℕ) : Type 0 where
  pub alarms : List AlarmContexts
  pub finds : FindsAlarms scale bytes alarms
  pub groups : List AccessGroup
  pub raced : FindsRaces scale bytes groups
  pub advices : List Advice
  pub advised : AreAdvised (length groups) alarms advices
  pub comes : status ≡ alarms_status alarms
  pub laid : LaidTree
  pub of : IsLaidSourceOn scale bytes laid
  pub is : (let s = finds.solves in
      text ≡ causes_text bytes (object_names laid) (task_names laid) (operation_of s.program) alarms advices)

-- ## All texts

-- the report alone
pub record TellsReport (scale : Scale) (bytes : List ℕ) (status : Status) (text : List ℕ) : Type 0 where
  pub report : List Alarm
  pub finds : FindsReport scale bytes report
  pub comes : status ≡ report_status report
  pub is : text ≡ json_text report

-- The report as JSON, the waits, the ranges, the notes on rings, races and other alarms, the advice, the whole notes,
-- and the list of assumptions, each as it is answered alone, behind a line with its name, its status and its length; the
-- status is that of the report.
pub record TellsParts (scale : Scale) (bytes : List ℕ) (status : Status) (text : List ℕ) : Type 0 where
  pub report : Part (TellsReport scale bytes)
  pub waits : Part (TellsWaitsOn scale bytes)
  pub ranges : Part (TellsRangesOn scale bytes)
  pub rings : Part (TellsRings scale bytes)
  pub races : Part (TellsRaces scale bytes)
  pub alarms : Part (TellsAlarms scale bytes)
  pub causes : Part (TellsCauses scale bytes)
  pub notes : Part (TellsNotes scale bytes)
  pub assumptions : Part (TellsAssumptions scale bytes)
  pub comes : status ≡ report.status
  pub is : text ≡ (((((((shown (codes "report") report ++ shown (codes "waits") waits)
      ++ shown (codes "ranges") ranges) ++ shown (codes "rings") rings)
      ++ shown (codes "races") races) ++ shown (codes "alarms") alarms) ++ shown (codes "causes") causes)
      ++ shown (codes "notes") notes) ++ shown (codes "assumptions") assumptions

-- ## All

abbrev pub Tells : Scale → Note → List ℕ → Status → List ℕ → Type 0
Tells scale Report = TellsReport scale
Tells scale Rings = TellsRings scale
Tells scale Races = TellsRaces scale
Tells scale Others = TellsAlarms scale
Tells scale Causes = TellsCauses scale
Tells scale Whole = TellsNotes scale
Tells scale Assumptions = TellsAssumptions scale
Tells scale Parts = TellsParts scale

-- The status and the text that these bytes are answered with.
abbrev pub HasNotes : Scale → Note → List ℕ → Status → List ℕ → Type 0
HasNotes scale n bytes NoAlarm text = Tells scale n bytes NoAlarm text
HasNotes scale n bytes Alarms text = Tells scale n bytes Alarms text
HasNotes scale n bytes Refused text =
    (refusal : Refusal) × IsRefusedOn scale bytes refusal × (text ≡ refusal_text_on scale refusal)
HasNotes scale n bytes Usage text = ⊥
HasNotes scale n bytes ReadFault text = ⊥
HasNotes scale n bytes WriteFault text = ⊥
HasNotes scale n bytes NoMemory text = ⊥
