-- The texts of alarms with what they stand on. Lines, columns and numbers stand in decimal.
use Rattle.std.specs.Prelude.{ℕ, zero, suc, cond, List, [], ◌++◌, length, codes, decimal}
use Rattle.std.specs.Prelude.{slice_get, Option, Some, None}
use Rattle.std.specs.List.{flat_map}
use Rattle.pointer_dom.specs.Values.{Values}
use Rattle.tm_terms.specs.declared.tokens.Name.{Name}
use Rattle.tm_terms.specs.Spelling.{text_of}
use Rattle.tm_terms.specs.Texts.{line_of, class_text}
use Rattle.flow_graph.specs.declared.operations.Operation.{Operation}
use Rattle.alarm_contexts.specs.declared.alarm_context.ContextEdge.{ContextEdge}
use Rattle.alarm_contexts.specs.declared.alarm_context.AlarmContexts.{AlarmContexts}
use Rattle.notes_json.specs.Operations.{role_at}
use Rattle.program_notes.specs.Edges.{edge_body, is_first}
use Rattle.note_lines.specs.declared.names.ObjectName.{ObjectName}
use Rattle.tm_terms.specs.Texts.{place_head}
use Rattle.note_lines.specs.OperationWords.{operation_text}
use Rattle.note_lines.specs.OperandTexts.{word_if, operand_text, flaw_lines}

-- ## Tasks

-- the name of the function of a task, or that of the initial section (C99 5.1.2.2.1)
abbrev pub or_main : List ℕ → Option Name → List ℕ
or_main bytes None = codes "main"
or_main bytes (Some name) = text_of bytes name

abbrev pub runner_text : List ℕ → List Name → ℕ → List ℕ
runner_text bytes tasks n = or_main bytes (slice_get tasks n)

-- the priority of a task, or that what runs is the initial section
abbrev pub or_initial : Option ℕ → List ℕ
or_initial None = codes " initial"
or_initial (Some priority) = codes " " ++ decimal priority

abbrev pub priority_text : List ℕ → ℕ → List ℕ
priority_text priorities n = or_initial (slice_get priorities n)

-- NAME PRIORITY, or main initial, behind a blank
abbrev pub body_text : List ℕ → List Name → List ℕ → ℕ → List ℕ
body_text bytes tasks priorities n = codes " " ++ (runner_text bytes tasks n ++ priority_text priorities n)

module _ (bytes : List ℕ) (tasks : List Name) (priorities : List ℕ) where
  -- the task of an edge that is the first of its body
  abbrev pub task_at : List ContextEdge → ℕ → List ℕ
  task_at edges n = cond (is_first edges n) (body_text bytes tasks priorities (edge_body edges n)) []

  -- the tasks of the first of these edges
  abbrev pub tasks_below : List ContextEdge → ℕ → List ℕ
  tasks_below edges zero = []
  tasks_below edges (suc n) = tasks_below edges n ++ task_at edges n

-- ## Parts of an alarm

-- edges N
abbrev pub edges_text : ℕ → List ℕ
edges_text count = codes " edges " ++ decimal count

-- LINE:COL CLASS OPERATOR ..
abbrev pub head_front : List ℕ → List Name → AlarmContexts → Operation → List ℕ
head_front bytes mutexes a operation =
    place_head a.place ++ (class_text a.class ++ operation_text bytes mutexes operation)

-- edges N [always] tasks NAME PRIORITY ..
abbrev pub head_back : List ℕ → List Name → List ℕ → AlarmContexts → List ℕ
head_back bytes tasks priorities a = edges_text (length a.edges.items) ++ (word_if a.always (codes " always")
    ++ (codes " tasks" ++ tasks_below bytes tasks priorities a.edges.items (length a.edges.items)))

abbrev pub alarm_head : List ℕ → List Name → List ℕ → List Name → AlarmContexts → Operation → List ℕ
alarm_head bytes tasks priorities mutexes a operation =
    line_of (head_front bytes mutexes a operation ++ head_back bytes tasks priorities a)

module _ (bytes : List ℕ) (objects : List ObjectName) where
  -- the text of the operand at this place among them, if there is one
  abbrev pub or_nothing : AlarmContexts → Operation → ℕ → Option Values → List ℕ
  or_nothing a operation n None = []
  or_nothing a operation n (Some v) = operand_text bytes objects a.place (role_at operation n) v

  abbrev pub operand_at : AlarmContexts → Operation → ℕ → List ℕ
  operand_at a operation n = or_nothing a operation n (slice_get a.operands.items n)

  -- the texts of the first of the operands
  abbrev pub operands_below : AlarmContexts → Operation → ℕ → List ℕ
  operands_below a operation zero = []
  operands_below a operation (suc n) = operands_below a operation n ++ operand_at a operation n

-- ## Alarms

-- alarms N
abbrev pub count_line : ℕ → List ℕ
count_line count = line_of (codes "alarms " ++ decimal count)

module _ (bytes : List ℕ) (objects : List ObjectName) (tasks : List Name) (priorities : List ℕ)
    (mutexes : List Name) where
  -- its first line, its operands, and what is wrong with the pointers among these
  abbrev pub alarm_text : AlarmContexts → Operation → List ℕ
  alarm_text a operation = alarm_head bytes tasks priorities mutexes a operation
      ++ (operands_below bytes objects a operation (length a.operands.items) ++ flaw_lines bytes objects a.flaws.items)

  -- the text of each alarm, whose operation is found so, and then their number
  abbrev pub alarms_text : (AlarmContexts → Operation) → List AlarmContexts → List ℕ
  alarms_text operation_of alarms = flat_map (λ a. alarm_text a (operation_of a)) alarms ++ count_line (length alarms)
