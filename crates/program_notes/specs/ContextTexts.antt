-- Alarms that are not races, with what they stand on, as JSON.
use Rattle.std.specs.Prelude.{ℕ, List, ◌++◌, length, decimal, Option}
use Rattle.std.specs.List.{filter, range_with_len}
use Rattle.tm_terms.specs.Spelling.{text_of}
use Rattle.flow_graph.specs.declared.operations.Operation.{Operation}
use Rattle.alarm_contexts.specs.declared.alarm_context.ContextEdge.{ContextEdge}
use Rattle.alarm_contexts.specs.declared.alarm_context.AlarmContexts.{AlarmContexts}
use Rattle.note_details.specs.declared.alarms.AlarmDetails.{AlarmDetails}
use Rattle.notes_json.specs.Pieces.{listed}
use Rattle.notes_json.specs.Alarms.{alarm_front, alarm_lines, alarm_middle, alarm_back, alarm_end}
use Rattle.program_notes.specs.Edges.{edge_body, is_first}
use Rattle.program_notes.specs.OperandTexts.{operands_text}
use Rattle.program_notes.specs.Paths.{path_text}

-- ## Tasks

-- the task of an edge, by its place among the edges
abbrev pub task_at : List ContextEdge → ℕ → List ℕ
task_at edges n = decimal (edge_body edges n)

-- the edges below a bound that are the first of their tasks
abbrev pub firsts_below : List ContextEdge → ℕ → List ℕ
firsts_below edges n = filter (is_first edges) (range_with_len 0 n)

abbrev pub tasks_text : List ContextEdge → List ℕ
tasks_text edges = listed (task_at edges) (firsts_below edges (length edges))

-- ## Alarms

abbrev pub context_middle : Operation → AlarmDetails → List ℕ
context_middle operation d = alarm_middle operation d.path_count ++ listed path_text d.paths.items

abbrev pub context_back : AlarmContexts → Operation → List ℕ
context_back a operation = alarm_back operation ++ (tasks_text a.edges.items ++ alarm_end operation)

module _ (bytes : List ℕ) (numbers : List (Option ℕ)) where
  abbrev pub context_front : AlarmContexts → Operation → AlarmDetails → List ℕ
  context_front a operation d = alarm_front a.place a.class a.always operation
      ++ (alarm_lines a.place (text_of bytes d.function) operation
      ++ operands_text numbers a.flaws.items operation d.operands.items a.operands.items)

  -- {"always":false,["cells":CELLS,]"class":"CLASS","col":COL,"function":"FUNCTION",["length":LENGTH,]"line":LINE,
  -- ["mutex":MUTEX,]"operands":[OPERAND,..],"operator":"OPERATOR","path_count":COUNT,"paths":[PATH,..][,"rule":"RULE"],
  -- "tasks":[TASK,..][,"type":"TYPE"]}
  abbrev pub context_text : AlarmContexts → Operation → AlarmDetails → List ℕ
  context_text a operation d =
      context_front a operation d ++ (context_middle operation d ++ context_back a operation)
