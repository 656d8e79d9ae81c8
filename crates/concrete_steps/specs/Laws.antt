-- Laws of worlds.
use Rattle.std.specs.Prelude.{◌≡◌, ◌≢◌, ℕ, true, false, map}
use Rattle.tm_cint.specs.declared.Class.{Class}
use Rattle.tm_terms.specs.declared.places.Place.{Place}
use Rattle.concrete_values.specs.tm_laid.Layouts.{LaidTree}
use Rattle.concrete_values.specs.declared.actions.Next.{Next}
use Rattle.concrete_values.specs.declared.actions.Next.TheVariants as Acts
use Rattle.concrete_steps.specs.declared.worlds.Status.TheVariants.{Blocked, Done}
use Rattle.concrete_steps.specs.declared.worlds.Choice.{Choice}
use Rattle.concrete_steps.specs.declared.worlds.Stepped.TheVariants as Steps
use Rattle.concrete_steps.specs.Worlds.{World, Standing, standing, start, holds, next_at, step}
use Rattle.concrete_steps.specs.Moves.{IsMove}
use Rattle.concrete_steps.specs.Occurring.{IsReached}

-- a choice that is not allowed changes nothing
abbrev pub RefusalsChangeNothing : Type 0
RefusalsChangeNothing =
    (laid : LaidTree) (w : World) (c : Choice) → (step laid w c).answer ≡ Steps.NotAllowed → (step laid w c).world ≡ w

-- an error ends the run: after it no choice is allowed
abbrev pub ErrorsEndRuns : Type 0
ErrorsEndRuns =
    (laid : LaidTree) (w : World) (c : Choice) (class : Class) (p : Place)
    → (step laid w c).answer ≡ Steps.Stopped class p
    → (d : Choice) → (step laid (step laid w c).world d).answer ≡ Steps.NotAllowed

-- no two tasks hold one mutex
abbrev pub HeldApart : Type 0
HeldApart =
    (laid : LaidTree) (w : World) → IsReached laid w → (i j m : ℕ) → i ≢ j → holds m (standing w i) ≡ true
    → holds m (standing w j) ≡ false

-- the action is the lock of this mutex
abbrev pub IsLock : ℕ → Next → Type 0
IsLock m action = (p : Place) × (action ≡ Acts.Lock m p)

-- a task that is blocked stands at the lock of that mutex, which it does not hold
abbrev pub BlockedAtLocks : Type 0
BlockedAtLocks =
    (laid : LaidTree) (w : World) → IsReached laid w → (i m : ℕ) → (standing w i).status ≡ Blocked m
    → IsLock m (next_at laid w i) × (holds m (standing w i) ≡ false)

-- a task that is done stands at the end of its body
abbrev pub DoneAtEnds : Type 0
DoneAtEnds =
    (laid : LaidTree) (w : World) → IsReached laid w → (i : ℕ) → (standing w i).status ≡ Done
    → next_at laid w i ≡ Acts.Ended

-- each step that is done is a move, in the clauses of which it changes what they say and nothing else
abbrev pub StepsAreMoves : Type 0
StepsAreMoves =
    (laid : LaidTree) (w : World) → IsReached laid w → (c : Choice) → (step laid w c).answer ≡ Steps.Done
    → IsMove laid w (step laid w c).world c

-- each task keeps its priority
abbrev pub PrioritiesStay : Type 0
PrioritiesStay =
    (laid : LaidTree) (w : World) → IsReached laid w
    → map (λ (s : Standing). s.priority) w.standings ≡ map (λ s. s.priority) (start laid).standings
