-- The texts of advice on alarms: what is found at the end of the way back from the operand to blame, and the steps of
-- this way. Lines, columns and numbers stand in decimal.
use Rattle.std.specs.Prelude.{ℕ, zero, suc, ℤ, List, [], ◌++◌, length, codes, decimal, slice_get, Option, Some, None}
use Rattle.std.specs.Fmt.{signed_decimal}
use Rattle.std.specs.List.{flat_map}
use Rattle.tm_terms.specs.declared.places.Place.{Place}
use Rattle.tm_terms.specs.declared.tokens.Name.{Name}
use Rattle.tm_terms.specs.Texts.{line_of, class_text}
use Rattle.flow_graph.specs.declared.operations.Operation.{Operation}
use Rattle.alarm_contexts.specs.declared.alarm_context.AlarmContexts.{AlarmContexts}
use Rattle.alarm_causes.specs.declared.advices.StepKind.{StepKind}
use Rattle.alarm_causes.specs.declared.advices.StepKind.TheVariants as Kinds
use Rattle.alarm_causes.specs.declared.advices.Step.{Step}
use Rattle.alarm_causes.specs.declared.advices.Cause.{Cause}
use Rattle.alarm_causes.specs.declared.advices.Cause.TheVariants as Causes
use Rattle.alarm_causes.specs.declared.advices.Advice.{Advice}
use Rattle.notes_json.specs.Operations.{role_at}
use Rattle.note_lines.specs.declared.names.ObjectName.{ObjectName}
use Rattle.tm_terms.specs.Texts.{place_head}
use Rattle.note_lines.specs.Names.{spelled}
use Rattle.note_lines.specs.AlarmTexts.{runner_text}
use Rattle.note_lines.specs.OperandTexts.{word_if}

abbrev pub step_word : StepKind → List ℕ
step_word Kinds.Load = codes "load"
step_word Kinds.Store = codes "store"
step_word Kinds.Computed = codes "computed"
step_word Kinds.Loop = codes "loop"
step_word Kinds.Alarm = codes "alarm"
step_word Kinds.Input = codes "input"
step_word Kinds.Volatile = codes "volatile"
step_word Kinds.Open = codes "open"
step_word Kinds.Initial = codes "initial"
step_word Kinds.Unset = codes "unset"
step_word Kinds.Constant = codes "constant"
step_word Kinds.IsLocked = codes "islocked"
step_word Kinds.Address = codes "address"

abbrev pub cause_word : Cause → List ℕ
cause_word Causes.Interference = codes "interference"
cause_word Causes.Loop = codes "loop"
cause_word Causes.Alarm = codes "alarm"
cause_word Causes.Input = codes "input"
cause_word Causes.Volatile = codes "volatile"
cause_word Causes.Open = codes "open"
cause_word Causes.Unset = codes "unset"
cause_word Causes.Null = codes "null"
cause_word Causes.Initial = codes "initial"
cause_word Causes.Values = codes "values"

-- LINE:COL and a blank, or a point for a place that is not known
abbrev pub place_or_point : Option Place → List ℕ
place_or_point None = codes ". "
place_or_point (Some place) = place_head place

-- LEAST GREATEST, each behind a blank, where there is a number
abbrev pub bounds_text : Option (ℤ × ℤ) → List ℕ
bounds_text None = []
bounds_text (Some (low, high)) = codes " " ++ (signed_decimal low ++ (codes " " ++ signed_decimal high))

-- the operand to blame, behind a blank, if there is one
abbrev pub blamed_text : Operation → Option ℕ → List ℕ
blamed_text operation None = []
blamed_text operation (Some n) = codes " " ++ role_at operation n

-- of NAME, behind a blank, where the step is at an object
abbrev pub object_named : List ℕ → Option ObjectName → List ℕ
object_named bytes None = []
object_named bytes (Some o) = codes " of " ++ spelled bytes (Some o.name)

abbrev pub of_object : List ℕ → List ObjectName → Option ℕ → List ℕ
of_object bytes objects None = []
of_object bytes objects (Some object) = object_named bytes (slice_get objects object)

-- PLACE KIND TASK
abbrev pub step_front : List ℕ → List Name → Step → List ℕ
step_front bytes tasks s =
    place_or_point s.place ++ (step_word s.kind ++ (codes " " ++ runner_text bytes tasks s.task))

-- [LEAST GREATEST] [null] [invalid] [of NAME]
abbrev pub step_back : List ℕ → List ObjectName → Step → List ℕ
step_back bytes objects s = bounds_text s.bounds ++ (word_if s.null (codes " null")
    ++ (word_if s.invalid (codes " invalid") ++ of_object bytes objects s.object))

-- LINE:COL CLASS CAUSE [ROLE]
abbrev pub advice_head : AlarmContexts → Operation → Advice → List ℕ
advice_head a operation v = line_of (place_head a.place ++ (class_text a.class ++ (codes " "
    ++ (cause_word v.cause ++ blamed_text operation v.blamed))))

module _ (bytes : List ℕ) (objects : List ObjectName) (tasks : List Name) where
  abbrev pub step_text : Step → List ℕ
  step_text s = line_of (step_front bytes tasks s ++ step_back bytes objects s)

  -- the first line, and the steps
  abbrev pub advice_text : AlarmContexts → Operation → Advice → List ℕ
  advice_text a operation v = advice_head a operation v ++ flat_map step_text v.trace.items

  module _ (operation_of : AlarmContexts → Operation) (alarms : List AlarmContexts) (advices : List Advice) where
    abbrev pub or_nothing : Option AlarmContexts → Option Advice → List ℕ
    or_nothing (Some a) (Some v) = advice_text a (operation_of a) v
    or_nothing a v = []

    -- the text of the advice on the alarm at this place among them, if there is some
    abbrev pub advice_at : ℕ → List ℕ
    advice_at n = or_nothing (slice_get alarms n) (slice_get advices n)

    -- the texts of the first of them
    abbrev pub advices_below : ℕ → List ℕ
    advices_below zero = []
    advices_below (suc n) = advices_below n ++ advice_at n

    -- the text of each, and then their number: causes N
    abbrev pub causes_text : List ℕ
    causes_text = advices_below (length alarms) ++ line_of (codes "causes " ++ decimal (length alarms))
