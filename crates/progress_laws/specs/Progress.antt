-- Progress: which choices are allowed in each world that is reached, and what they lead to.
use Rattle.std.specs.Prelude.{◌≡◌, ◌≢◌, ℕ, ◌<◌, ℤ, ◌&&◌, int_le, Bool, true, false, if◌then◌else◌, List, length, Option}
use Rattle.std.specs.Prelude.{Ok}
use Rattle.concrete_steps.specs.tm_cint.Conversions.{is_zero}
use Rattle.concrete_steps.specs.tm_cint.declared.Class.TheVariants as Classes
use Rattle.concrete_steps.specs.tm_cint.IntTypes.{is_in}
use Rattle.concrete_steps.specs.tm_terms.declared.tokens.Name.{Name}
use Rattle.concrete_steps.specs.tm_trees.FileTrees.{ItemTree}
use Rattle.concrete_steps.specs.tm_typed.declared.types.Scalar.{Scalar}
use Rattle.concrete_steps.specs.tm_typed.declared.types.Scalar.TheVariants as Scalars
use Rattle.concrete_steps.specs.tm_typed.Files.{TypedFileTree, IsTyped}
use Rattle.concrete_steps.specs.tm_laid.Layouts.{LaidTree, cell_of}
use Rattle.concrete_steps.specs.concrete_values.declared.values.Answer.{Answer}
use Rattle.concrete_steps.specs.concrete_values.declared.actions.Next.{Next}
use Rattle.concrete_steps.specs.concrete_values.declared.actions.Next.TheVariants as Acts
use Rattle.concrete_steps.specs.declared.worlds.Content.{Content}
use Rattle.concrete_steps.specs.declared.worlds.Content.TheVariants.{Open, Is}
use Rattle.concrete_steps.specs.declared.worlds.Status.{Status}
use Rattle.concrete_steps.specs.declared.worlds.Status.TheVariants.{Waiting, Ready, Blocked, Done}
use Rattle.concrete_steps.specs.declared.worlds.Choice.{Choice}
use Rattle.concrete_steps.specs.declared.worlds.Choice.TheVariants.{Wake, Run}
use Rattle.concrete_steps.specs.declared.worlds.Stepped.{Stepped}
use Rattle.concrete_steps.specs.declared.worlds.Stepped.TheVariants as Steps
use Rattle.concrete_steps.specs.Places.{is_pointer_scalar}
use Rattle.concrete_steps.specs.NextAction.{next}
use Rattle.concrete_steps.specs.Worlds.{Standing, World, standing, next_at, holds, step}
use Rattle.concrete_steps.specs.Moves.{status_of, content_of}
use Rattle.concrete_steps.specs.Occurring.{IsReached}
use Rattle.next_action_laws.specs.Laws.{HasLayout}

-- ## What an action leaves open, and what it leads to

-- a number of the integer type; no pointer is chosen
abbrev pub is_number_of : Scalar → ℤ → Bool
is_number_of (Scalars.Int t) n = is_in t n
is_number_of (Scalars.Pointer class) n = false

-- the numbers that a read of this content leaves open
abbrev pub reads_any_of : Scalar → Content → ℤ → Bool
reads_any_of s Open n = is_number_of s n
reads_any_of s (Is v) n = is_zero n

-- The numbers that a choice of the action may have: any value of the type where a volatile or an open cell is loaded,
-- any between its bounds, and 0 where nothing is open.
abbrev pub may_have : LaidTree → World → Next → ℤ → Bool
may_have laid w (Acts.Load o k s true p) n = is_number_of s n
may_have laid w (Acts.Load o k s false p) n = reads_any_of s (content_of w (cell_of laid o k)) n
may_have laid w (Acts.Chosen low high) n = int_le low n && int_le n high
may_have laid w _ n = is_zero n

-- What the action of a task that stands so leads to: a fault to a stop with its class, the lock of a mutex that the
-- task holds, and the unlock of one that it does not hold, to a stop as well, and all else on.
abbrev pub leads_to : Standing → Next → Stepped
leads_to s (Acts.Fault class p) = Steps.Stopped class p
leads_to s (Acts.Lock m p) = if holds m s then Steps.Stopped Classes.Lock p else Steps.Done
leads_to s (Acts.Unlock m p) = if holds m s then Steps.Done else Steps.Stopped Classes.Lock p
leads_to s _ = Steps.Done

-- ## Whose turn it is

-- the task, or the initial section, is ready, and none that is ready is more urgent
pub record HasTurn (w : World) (i : ℕ) : Type 0 where
  pub ready : status_of w i ≡ Ready
  pub first : (j : ℕ) → (standing w i).priority < (standing w j).priority → status_of w j ≡ Ready → ⊥

-- Whose turn it is has not come to its end; each number that its action leaves open leads on; and there is such a
-- number.
pub record GoesOn (laid : LaidTree) (w : World) (i : ℕ) : Type 0 where
  pub unended : next_at laid w i ≡ Acts.Ended → ⊥
  pub every : (n : ℤ) → may_have laid w (next_at laid w i) n ≡ true
      → (step laid w (Run i n)).answer ≡ leads_to (standing w i) (next_at laid w i)
  pub number : ℤ
  pub some : may_have laid w (next_at laid w i) number ≡ true

-- the initial section is done, or there is none
abbrev pub HasBegun : LaidTree → World → Type 0
HasBegun laid w = (i : ℕ) → i ≡ length laid.file.tasks → i < length w.standings → status_of w i ≡ Done

-- Progress in a world.
pub record HasProgress (laid : LaidTree) (w : World) : Type 0 where
  pub turns : (i : ℕ) → HasTurn w i → GoesOn laid w i
  -- while the initial section is not done it is its turn
  pub section : (i : ℕ) → i ≡ length laid.file.tasks → i < length w.standings → status_of w i ≢ Done → HasTurn w i
  -- then each task that waits may be woken
  pub wakes : HasBegun laid w → (i : ℕ) → i < length w.standings → status_of w i ≡ Waiting
      → (step laid w (Wake i)).answer ≡ Steps.Done

-- ## Laws

-- some number answers the action: no load of a pointer is volatile, and bounds are in order
abbrev pub IsAnswerable : Next → Type 0
IsAnswerable (Acts.Load o k s true p) = is_pointer_scalar s ≡ false
IsAnswerable (Acts.Chosen low high) = int_le low high ≡ true
IsAnswerable _ = Unit {0}

-- the next action of each task is so, after whatever answers
abbrev pub ActionsAreAnswerable : Type 0
ActionsAreAnswerable =
    (main : Option Name) (items : List ItemTree) (file : TypedFileTree) → IsTyped main items (Ok file)
    → (order : List ℕ) (laid : LaidTree) → HasLayout file order laid
    → (i : ℕ) (answers : List Answer) → IsAnswerable (next laid i answers)

-- there is progress in each world that is reached
abbrev pub ProgressIsMade : Type 0
ProgressIsMade =
    (main : Option Name) (items : List ItemTree) (file : TypedFileTree) → IsTyped main items (Ok file)
    → (order : List ℕ) (laid : LaidTree) → HasLayout file order laid → (w : World) → IsReached laid w
    → HasProgress laid w

-- whoever has come to its end is done
abbrev pub EndsAreDone : Type 0
EndsAreDone =
    (laid : LaidTree) (w : World) → IsReached laid w → (i : ℕ) → i < length w.standings
    → next_at laid w i ≡ Acts.Ended → status_of w i ≡ Done

-- the task is done, or waits for a mutex
abbrev pub IsAtRest : Status → Type 0
IsAtRest Done = Unit {0}
IsAtRest (Blocked m) = Unit {0}
IsAtRest Waiting = ⊥
IsAtRest Ready = ⊥

-- where no choice is allowed each task, and the initial section, is done or waits for a mutex
abbrev pub RunsEndAtRest : Type 0
RunsEndAtRest =
    (main : Option Name) (items : List ItemTree) (file : TypedFileTree) → IsTyped main items (Ok file)
    → (order : List ℕ) (laid : LaidTree) → HasLayout file order laid → (w : World) → IsReached laid w
    → ((c : Choice) → (step laid w c).answer ≡ Steps.NotAllowed)
    → (i : ℕ) → i < length w.standings → IsAtRest (status_of w i)

-- a task that is blocked waits for a mutex that another holds
abbrev pub BlockedAwaitHolders : Type 0
BlockedAwaitHolders =
    (laid : LaidTree) (w : World) → IsReached laid w → (i m : ℕ) → status_of w i ≡ Blocked m
    → (j : ℕ) × (j ≢ i) × (holds m (standing w j) ≡ true)
