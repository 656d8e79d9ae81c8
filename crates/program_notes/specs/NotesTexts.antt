-- All notes on a program, as one line of JSON.
use Rattle.std.specs.Prelude.{ℕ, List, ◌++◌, length, codes}
use Rattle.tm_terms.specs.declared.alarms.Alarm.{Alarm}
use Rattle.flow_graph.specs.declared.operations.Operation.{Operation}
use Rattle.alarm_contexts.specs.declared.alarm_context.AlarmContexts.{AlarmContexts}
use Rattle.notes_json.specs.Pieces.{listed, number_text, place_text}
use Rattle.program_notes.specs.declared.declarations.Declared.{Declared}
use Rattle.program_notes.specs.declared.noted.Contents.{Contents}
use Rattle.program_notes.specs.Lists.{runner_text, mutex_text}
use Rattle.program_notes.specs.ObjectTexts.{objects_text}
use Rattle.program_notes.specs.AlarmTexts.{alarms_text}
use Rattle.program_notes.specs.GroupTexts.{groups_text}

-- ],"count":N
abbrev pub count_text : List Alarm → List ℕ
count_text report = number_text (codes "],\"count\":") (length report)

-- {"alarms":[ALARM,..],"count":N
abbrev pub alarms_part : (AlarmContexts → Operation) → List ℕ → Contents → List ℕ
alarms_part operation_of bytes c = (let r = c.report in let d = c.details in codes "{\"alarms\":["
    ++ (alarms_text operation_of bytes d.numbers.items r.alarms.items c.others.items d.alarms.items
    ++ count_text r.alarms.items))

-- ],"races":[GROUP,..
abbrev pub races_part : Contents → List ℕ
races_part c = (let d = c.details in codes "],\"races\":["
    ++ groups_text d.numbers.items c.groups.items d.members.items)

module _ (bytes : List ℕ) (d : Declared) where
  -- the objects that are listed
  abbrev pub objects_part : Contents → List ℕ
  objects_part c = (let r = c.ranges in let more = c.details in codes "],\"objects\":["
      ++ objects_text bytes r.bounds.items d.objects.items more.objects.items more.numbers.items)

  -- ,"dead":[PLACE,..],"mutexes":[MUTEX,..],"objects":[OBJECT,..
  abbrev pub names_part : Contents → List ℕ
  names_part c = (let r = c.ranges in codes ",\"dead\":[" ++ (listed place_text r.dead.items
      ++ (codes "],\"mutexes\":[" ++ (listed (mutex_text bytes) d.mutexes.items ++ objects_part c))))

  -- ],"tasks":[TASK,..]} and the end of the line
  abbrev pub tasks_part : List ℕ
  tasks_part = codes "],\"tasks\":[" ++ (listed (runner_text bytes) d.runners.items ++ codes "]}\n")

  -- the notes, where the operation of an alarm is found so
  abbrev pub notes_text : (AlarmContexts → Operation) → Contents → List ℕ
  notes_text operation_of c =
      alarms_part operation_of bytes c ++ (names_part c ++ (races_part c ++ tasks_part))
