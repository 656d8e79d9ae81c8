-- How the walk of statements stands for what is noted of them: what stands at the ends of loops and of `switch`, and
-- what is noted of initialisers by numbers that are counted from the first edge of the body.
use Rattle.std.specs.Prelude.{◌≡◌, ℕ, zero, suc, ◌+◌, Bool, true, false, ◌||◌, cond, Option, Some, None}
use Rattle.tm_terms.specs.declared.places.Place.{Place}
use Rattle.tm_typed.specs.TypedStatements.{LocalInitialiserTree, TypedCase, a_label, a_default_label}
use Rattle.tm_typed.specs.TypedStatements.{a_labelled_step, TypedCases, no_typed_cases, and_typed_case}
use Rattle.tm_typed.specs.Functions.{TypedBodyTree}
use Rattle.tm_laid.specs.Layouts.{LaidTree}
use Rattle.body_builder.specs.concrete_steps.Places.{result_type}
use Rattle.body_builder.specs.concrete_steps.NextAction.{function_at}
use Rattle.path_origins.specs.declared.origins.Form.TheVariants as Forms
use Rattle.path_origins.specs.declared.origins.Span.{Span}
use Rattle.path_origins.specs.declared.origins.Notes.{Notes}
use Rattle.path_origins.specs.declared.statements.Ways.{Ways}
use Rattle.path_origins.specs.Noted.{Noted, nothing, behind, scoped, one, tests, skips}
use Rattle.path_origins.specs.Statements.{nowhere, Left, goes_on, statements}
use Rattle.path_origins.specs.Bodies.{fallen, closing, is_task_path}
use Rattle.path_origins.specs.reading.Walks.{IsBehind}

-- ## Loops and `switch`

-- once more by `break`, and by `return`
abbrev pub with_break : Ways → Ways
with_break w = record w { breaks = w.breaks + 1 }

abbrev pub with_return : Ways → Ways
with_return w = record w { returns = w.returns + 1 }

-- inside of a loop nothing has left by `break` or `continue` yet
abbrev pub inside_of : Ways → Ways
inside_of w = record { breaks = 0; continues = 0; returns = w.returns }

-- inside of a `switch` nothing has left by `break` yet
abbrev pub chosen_in : Ways → Ways
chosen_in w = record { breaks = 0; continues = w.continues; returns = w.returns }

-- behind a loop: what left by `break` or `continue` inside has come to its end
abbrev pub behind_loop : Ways → Ways → Ways
behind_loop before within =
    record { breaks = before.breaks; continues = before.continues; returns = within.returns }

-- behind a `switch`: what left by `break` inside has come to its end
abbrev pub behind_choice : Ways → Ways → Ways
behind_choice before within =
    record { breaks = before.breaks; continues = within.continues; returns = within.returns }

-- a part stands behind what was noted before, and behind it control has left so
pub record IsClosed (old new : Notes) (after meant : Ways) (x : Noted) : Type 0 where
  pub noted : IsBehind old new x
  pub ways : after ≡ meant

-- a `continue`, which makes an edge where it goes to the head of a loop
abbrev pub gone_on : Bool → Left
gone_on true = goes_on (one nowhere Forms.Skip)
gone_on false = record (goes_on nothing) { continues = 1 }

-- where so many `continue` come together
abbrev pub turns_met : ℕ → Noted
turns_met zero = nothing
turns_met (suc n) = skips nowhere (suc (suc n))

-- the way back to the head of a loop and its exit, to which so many others and so many `break` lead
abbrev pub loop_end : ℕ → ℕ → Noted
loop_end others breaks = behind (skips nowhere (suc others)) (skips nowhere breaks)

-- the tests of labels
abbrev pub label_noted : TypedCase → Noted
label_noted (a_label z p) = tests p (Forms.Test false)
label_noted (a_default_label p) = nothing
label_noted (a_labelled_step s) = nothing

abbrev pub labels_noted : TypedCases → Noted
labels_noted no_typed_cases = nothing
labels_noted (and_typed_case c cs) = behind (label_noted c) (labels_noted cs)

abbrev pub is_default_label : TypedCase → Bool
is_default_label (a_label z p) = false
is_default_label (a_default_label p) = true
is_default_label (a_labelled_step s) = false

abbrev pub is_default_among : TypedCases → Bool
is_default_among no_typed_cases = false
is_default_among (and_typed_case c cs) = is_default_label c || is_default_among cs

-- a way from the tests of a `switch` to its exit
abbrev pub missed : Bool → Noted
missed default = cond default nothing (one nowhere Forms.Skip)

-- the exit of a `switch`, to which so many `break` lead
abbrev pub select_end : Bool → ℕ → Noted
select_end default breaks = behind (missed default) (skips nowhere (suc breaks))

-- ## Initialisers

-- the edges of an initialiser between two numbers
abbrev pub span_from : ℕ → Option LocalInitialiserTree → ℕ → Option Span
span_from first None end = None
span_from first (Some i) end = Some (record { first = first; end = end })

-- ## Bodies

-- what is noted of a body, whose function stands at a place
abbrev pub body_noted : LaidTree → (Place → Bool) → (ℕ → ℕ) → ℕ → Place → TypedBodyTree → Noted
body_noted laid is_open sizes path p b =
    let x = statements laid is_open sizes path false b.statements in
    scoped (behind x.noted (behind (fallen p (result_type laid (function_at laid path)))
    (closing (is_task_path laid path) p x.returns)))

-- what is noted of a function, which stands at a place
abbrev pub function_noted : LaidTree → (Place → Bool) → (ℕ → ℕ) → ℕ → Place → Option TypedBodyTree → Noted
function_noted laid is_open sizes path p None = one p Forms.Constant
function_noted laid is_open sizes path p (Some b) = body_noted laid is_open sizes path p b
