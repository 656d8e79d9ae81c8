-- Lists of which some are left out, and bounds by object, as they are made one by one.
use Rattle.std.specs.Prelude.{ℕ, Bool, cond, nat_lt, List, [], ◌++◌, length, get_or, set, codes, slice_get}
use Rattle.std.specs.Prelude.{Option, Some, None}
use Rattle.value_ranges.specs.declared.object_bounds.ObjectBounds.{ObjectBounds}
use Rattle.alarm_contexts.specs.declared.alarm_context.ContextEdge.{ContextEdge}
use Rattle.alarm_contexts.specs.declared.flaws.ObjectFlaw.{ObjectFlaw}
use Rattle.note_details.specs.declared.objects.ObjectDetails.{ObjectDetails}
use Rattle.notes_json.specs.Pieces.{comma_before, comma_if, or_nothing}
use Rattle.program_notes.specs.declared.declarations.DeclaredObject.{DeclaredObject}
use Rattle.program_notes.specs.Edges.{is_first}
use Rattle.program_notes.specs.OperandTexts.{is_of, one_flaw}
use Rattle.program_notes.specs.ContextTexts.{task_at}
use Rattle.program_notes.specs.ObjectTexts.{is_listed, object_text}

-- ## Tasks and flaws

-- the task of an edge, if it is the first of that task
abbrev pub task_if : List ContextEdge → ℕ → List ℕ
task_if edges n = cond (is_first edges n) (comma_before n ++ task_at edges n) []

-- a flaw, if it is one of the object, behind a bar where others stand before it
abbrev pub bar_if : Bool → List ℕ
bar_if others = cond others (codes "|") []

abbrev pub flaw_if : ℕ → Bool → ObjectFlaw → List ℕ
flaw_if object others f = cond (is_of object f) (bar_if others ++ one_flaw f) []

-- ## Objects

-- bounds at their object, where it has none yet
abbrev pub first_of : Option ObjectBounds → ObjectBounds → ObjectBounds
first_of None b = b
first_of (Some a) b = a

abbrev pub noted : List (Option ObjectBounds) → ObjectBounds → List (Option ObjectBounds)
noted found b = cond (nat_lt b.object (length found))
    (set found b.object (Some (first_of (get_or found b.object None) b))) found

module _ (bytes : List ℕ) (bounds : Option ObjectBounds) (objects : List DeclaredObject)
    (details : List ObjectDetails) where
  -- the object with this number, with these bounds
  abbrev pub object_with : ℕ → List ℕ
  object_with n = or_nothing (λ o. or_nothing (object_text bytes bounds o) (slice_get details n)) (slice_get objects n)

  -- if it is listed
  abbrev pub object_if : List (Option ℕ) → Bool → ℕ → List ℕ
  object_if numbers others n = cond (is_listed numbers n) (comma_if others ++ object_with n) []
