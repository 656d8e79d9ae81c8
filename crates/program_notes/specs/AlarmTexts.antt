-- The alarms of a report as JSON: those of races with the accesses that race at their places, and the others with what
-- they stand on.
use Rattle.std.specs.Prelude.{ℕ, Bool, true, false, cond, List, [], ◌∷◌, ◌++◌, length, take, codes, decimal}
use Rattle.std.specs.Prelude.{slice_get, Option}
use Rattle.std.specs.List.{enumerate_from}
use Rattle.tm_terms.specs.declared.alarms.Alarm.{Alarm}
use Rattle.tm_terms.specs.declared.places.Place.{Place}
use Rattle.tm_terms.specs.Spelling.{text_of}
use Rattle.flow_graph.specs.declared.operations.Operation.{Operation}
use Rattle.access_groups.specs.declared.object_access.ObjectAccess.{ObjectAccess}
use Rattle.alarm_contexts.specs.declared.alarm_context.AlarmContexts.{AlarmContexts}
use Rattle.note_details.specs.declared.alarms.AlarmDetails.{AlarmDetails}
use Rattle.note_details.specs.declared.races.RaceAccess.{RaceAccess}
use Rattle.note_details.specs.Details.{is_race_class}
use Rattle.notes_json.specs.Pieces.{listed, or_nothing}
use Rattle.notes_json.specs.Accesses.{race_front, race_back, partner_text}
use Rattle.notes_json.specs.Alarms.{race_middle}
use Rattle.program_notes.specs.Paths.{path_text}
use Rattle.program_notes.specs.ContextTexts.{context_text}

-- ## Races and others

abbrev pub is_race : Alarm → Bool
is_race a = is_race_class a.class

-- the alarms of a report that are not races, in its order
abbrev pub other_alarms : List Alarm → List Alarm
other_alarms [] = []
other_alarms (a ∷ report) = cond (is_race a) (other_alarms report) (a ∷ other_alarms report)

-- ## Races

-- an access with which another one races
abbrev pub partner_object : ObjectAccess → List ℕ
partner_object p = partner_text p.place p.held p.stores p.task

-- {"held":[MUTEX,..],"kind":"store","member":"MEMBER","partner_count":COUNT,"partners":[PARTNER,..],"race":RACE,
-- "task":TASK}
abbrev pub race_object : RaceAccess → List ℕ
race_object a = race_front a.held a.stores a.member.items a.partner_count
    ++ (listed partner_object a.partners.items ++ race_back a.race a.task)

abbrev pub race_alarm_back : AlarmDetails → List ℕ
race_alarm_back d = listed path_text d.paths.items ++ (codes "],\"tasks\":["
    ++ (listed decimal d.tasks.items ++ codes "]}"))

module _ (bytes : List ℕ) where
  abbrev pub race_alarm_front : Place → AlarmDetails → List ℕ
  race_alarm_front place d = codes "{\"accesses\":[" ++ (listed race_object d.accesses.items
      ++ race_middle place (text_of bytes d.function) d.path_count)

  -- {"accesses":[ACCESS,..],"class":"RACE","col":COL,"function":"FUNCTION","line":LINE,"path_count":COUNT,
  -- "paths":[PATH,..],"tasks":[TASK,..]}
  abbrev pub race_alarm : Place → AlarmDetails → List ℕ
  race_alarm place d = race_alarm_front place d ++ race_alarm_back d

-- ## Texts

-- The contexts of the alarm at this place of a report, which is no race: they stand where it does among those that are
-- not.
abbrev pub contexts_at : List Alarm → List AlarmContexts → ℕ → Option AlarmContexts
contexts_at report others n = slice_get others (length (other_alarms (take n report)))

module _ (operation_of : AlarmContexts → Operation) (bytes : List ℕ) (numbers : List (Option ℕ)) where
  -- an alarm that is no race, with its contexts
  abbrev pub other_text : AlarmDetails → Option AlarmContexts → List ℕ
  other_text d contexts = or_nothing (λ c. context_text bytes numbers c (operation_of c) d) contexts

  -- an alarm, with these contexts if it is no race
  abbrev pub alarm_text : Option AlarmContexts → Alarm → AlarmDetails → List ℕ
  alarm_text contexts a d = cond (is_race a) (race_alarm bytes a.place d) (other_text d contexts)

  module _ (report : List Alarm) (others : List AlarmContexts) (details : List AlarmDetails) where
    -- one with its place in the report
    abbrev pub alarm_object : ℕ × Alarm → List ℕ
    alarm_object e = or_nothing (alarm_text (contexts_at report others e.0) e.1) (slice_get details e.0)

    abbrev pub alarms_text : List ℕ
    alarms_text = listed alarm_object (enumerate_from 0 report)
