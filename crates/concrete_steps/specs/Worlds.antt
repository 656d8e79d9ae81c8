-- Worlds: one processor, tasks of static priorities, mutexes. One action of one task is one step.
use Rattle.std.specs.Prelude.{ℕ, suc, ◌+◌, ◌==◌, ℤ, ◌&&◌, ◌||◌, nat_le, nat_lt, Bool, true, false, not}
use Rattle.std.specs.Prelude.{if◌then◌else◌}
use Rattle.std.specs.Prelude.{List, [], ◌∷◌, ◌++◌, length, map, drop, get_or, slice_get, slice_set, Option, Some, None}
use Rattle.tm_cint.specs.Conversions.{is_zero}
use Rattle.tm_cint.specs.declared.Class.{Class}
use Rattle.tm_cint.specs.declared.Class.TheVariants as Classes
use Rattle.tm_terms.specs.declared.places.Place.{Place}
use Rattle.concrete_values.specs.tm_typed.declared.types.Scalar.{Scalar}
use Rattle.concrete_values.specs.tm_typed.declared.types.Scalar.TheVariants as Scalars
use Rattle.concrete_values.specs.tm_typed.declared.files.TypedTask.{TypedTask}
use Rattle.concrete_values.specs.tm_laid.declared.objects.Initial.{Initial}
use Rattle.concrete_values.specs.tm_laid.declared.objects.Initial.TheVariants as Initials
use Rattle.concrete_values.specs.tm_laid.Layouts.{LaidTree, object_at, cell_at, cell_of}
use Rattle.concrete_values.specs.declared.values.Pointer.TheVariants as Pointers
use Rattle.concrete_values.specs.declared.values.Value.{Value}
use Rattle.concrete_values.specs.declared.values.Value.TheVariants.{Number, Pointer as APointer}
use Rattle.concrete_values.specs.declared.values.Answer.{Answer}
use Rattle.concrete_values.specs.declared.values.Answer.TheVariants as Answers
use Rattle.concrete_values.specs.declared.actions.Next.{Next}
use Rattle.concrete_values.specs.declared.actions.Next.TheVariants as Acts
use Rattle.concrete_values.specs.Values.{truth_value}
use Rattle.concrete_values.specs.Actions.{is_of, is_between}
use Rattle.concrete_steps.specs.declared.worlds.Content.{Content}
use Rattle.concrete_steps.specs.declared.worlds.Content.TheVariants.{Open, Is}
use Rattle.concrete_steps.specs.declared.worlds.Status.{Status}
use Rattle.concrete_steps.specs.declared.worlds.Status.TheVariants.{Waiting, Ready, Blocked, Done}
use Rattle.concrete_steps.specs.declared.worlds.Choice.{Choice}
use Rattle.concrete_steps.specs.declared.worlds.Choice.TheVariants.{Wake, Run}
use Rattle.concrete_steps.specs.declared.worlds.Stepped.{Stepped}
use Rattle.concrete_steps.specs.declared.worlds.Stepped.TheVariants as Steps
use Rattle.concrete_steps.specs.NextAction.{next}

-- ## Worlds

-- a task: its priority, where it stands, and for each mutex whether it holds it
pub record Standing : Type 0 where
  pub priority : ℕ
  pub status : Status
  pub held : List Bool

-- what stands in place of a task that there is not
abbrev pub no_standing : Standing
no_standing = record { priority = 0; status = Waiting; held = [] }

-- What each cell holds; how each task stands and which answers it has had, in the order of the tasks, and behind them
-- the initial section where there is one; and whether an error has stopped the run.
pub record World : Type 0 where
  pub contents : List Content
  pub standings : List Standing
  pub answers : List (List Answer)
  pub stopped : Bool

abbrev pub standing : World → ℕ → Standing
standing w i = get_or w.standings i no_standing

abbrev pub answers_of : World → ℕ → List Answer
answers_of w i = get_or w.answers i []

-- what a task, or the initial section, does next
unfoldable pub next_at : LaidTree → World → ℕ → Next
next_at laid w i = next laid i (answers_of w i)

-- the number of the initial section is that of the tasks
abbrev pub is_section : LaidTree → ℕ → Bool
is_section laid i = i == length laid.file.tasks

abbrev pub holds : ℕ → Standing → Bool
holds m s = get_or s.held m false

abbrev pub no_mutex : LaidTree → List Bool
no_mutex laid = map (λ m. false) laid.file.mutexes

-- ## Where tasks stand

abbrev pub is_ready : Status → Bool
is_ready Ready = true
is_ready Waiting = false
is_ready (Blocked m) = false
is_ready Done = false

abbrev pub is_waiting : Status → Bool
is_waiting Waiting = true
is_waiting Ready = false
is_waiting (Blocked m) = false
is_waiting Done = false

abbrev pub is_done : Status → Bool
is_done Done = true
is_done Waiting = false
is_done Ready = false
is_done (Blocked m) = false

abbrev pub is_blocked_on : ℕ → Status → Bool
is_blocked_on m (Blocked n) = m == n
is_blocked_on m Waiting = false
is_blocked_on m Ready = false
is_blocked_on m Done = false

abbrev pub with_status : Status → Standing → Standing
with_status x s = record s { status = x }

-- the set of its mutexes with one of them held, or free
abbrev pub with_mutex : ℕ → Bool → Standing → Standing
with_mutex m held s = record s { held = slice_set s.held m held }

abbrev pub is_ended : Next → Bool
is_ended Acts.Ended = true
is_ended _ = false

-- A task whose next action is the end of its body is done at once. The mutexes of the initial section are free then.
abbrev pub settled : LaidTree → ℕ → Next → Standing → Standing
settled laid i action s =
    if is_ended action
    then record s { status = Done; held = if is_section laid i then no_mutex laid else s.held }
    else s

-- ## The start

-- what a cell holds that is cleared
abbrev pub cleared_content : Scalar → Content
cleared_content (Scalars.Int t) = Open
cleared_content (Scalars.Pointer class) = Is (APointer Pointers.Invalid)

abbrev pub initial_content : Initial → Content
initial_content (Initials.Number z) = Is (Number z)
initial_content Initials.Null = Is (APointer Pointers.Null)
initial_content (Initials.To o k) = Is (APointer (Pointers.To o k))

-- cells of static storage hold their initial values, and the cells of local objects are cleared
abbrev pub start_contents : LaidTree → List Content
start_contents laid = map initial_content laid.initial ++ map (λ c. cleared_content c.scalar)
    (drop (length laid.initial) laid.cells)

-- a task, or the initial section, before it has done anything
abbrev pub start_standing : LaidTree → ℕ → ℕ → Status → Standing
start_standing laid i priority status =
    settled laid i (next laid i []) (record { priority = priority; status = status; held = no_mutex laid })

-- each task waits
abbrev pub start_tasks : LaidTree → ℕ → List TypedTask → List Standing
start_tasks laid i [] = []
start_tasks laid i (t ∷ ts) = start_standing laid i t.priority Waiting ∷ start_tasks laid (suc i) ts

-- the initial section is ready
abbrev pub start_section : LaidTree → Option ℕ → List Standing
start_section laid None = []
start_section laid (Some f) = start_standing laid (length laid.file.tasks) 0 Ready ∷ []

abbrev pub start_standings : LaidTree → List Standing
start_standings laid = start_tasks laid 0 laid.file.tasks ++ start_section laid laid.file.main

unfoldable pub start : LaidTree → World
start laid = record {
  contents = start_contents laid;
  standings = start_standings laid;
  answers = map (λ s. []) (start_standings laid);
  stopped = false;
}

-- ## What a step changes

-- what a choice leads to: what it is answered, and the world then
pub record Outcome : Type 0 where
  pub answer : Stepped
  pub world : World

-- the choice is not allowed, and nothing changes
abbrev pub refused : World → Outcome
refused w = record { answer = Steps.NotAllowed; world = w }

abbrev pub did : World → Outcome
did w = record { answer = Steps.Done; world = w }

-- an error ends the run
abbrev pub halted : Class → Place → World → Outcome
halted class p w = record { answer = Steps.Stopped class p; world = record w { stopped = true } }

abbrev pub stand : ℕ → Standing → World → World
stand i s w = record w { standings = slice_set w.standings i s }

abbrev pub told : ℕ → Answer → World → World
told i a w = record w { answers = slice_set w.answers i (answers_of w i ++ a ∷ []) }

-- the task i, which stands so, takes an answer and comes to its next action
abbrev pub answered : LaidTree → ℕ → Standing → Answer → World → Outcome
answered laid i s a w = did (stand i (settled laid i (next_at laid (told i a w) i) s) (told i a w))

-- each element by its number, from this one on
abbrev pub each_from : {A : Type 0} → (ℕ → A → A) → ℕ → List A → List A
each_from f k [] = []
each_from f k (x ∷ xs) = f k x ∷ each_from f (suc k) xs

-- the cell is one of the object's
abbrev pub is_part : LaidTree → ℕ → ℕ → Bool
is_part laid o c =
    nat_le (object_at laid o).first_cell c && nat_lt c ((object_at laid o).first_cell + (object_at laid o).cells)

-- an object's cells become as they are cleared
abbrev pub cleared : LaidTree → ℕ → World → World
cleared laid o w = record w {
  contents = each_from (λ c x. if is_part laid o c then cleared_content (cell_at laid c).scalar else x) 0 w.contents;
}

-- those who wait for the mutex are ready again
abbrev pub woken : ℕ → Standing → Standing
woken m s = if is_blocked_on m s.status then with_status Ready s else s

abbrev pub freed : ℕ → World → World
freed m w = record w { standings = map (woken m) w.standings }

-- ## Steps

-- no task that is ready is more urgent
abbrev pub none_above : ℕ → List Standing → Bool
none_above p [] = true
none_above p (s ∷ ss) = not (is_ready s.status && nat_lt p s.priority) && none_above p ss

-- some task, or the initial section, holds the mutex
abbrev pub is_taken : ℕ → List Standing → Bool
is_taken m [] = false
is_taken m (s ∷ ss) = holds m s || is_taken m ss

-- where the action leaves nothing open the number of the choice is 0
abbrev pub plainly : ℤ → Outcome → World → Outcome
plainly v o w = if is_zero v then o else refused w

-- where it leaves a value open the number is that value
abbrev pub openly : LaidTree → ℕ → Standing → ℤ → Bool → World → Outcome
openly laid i s v fits w = if fits then answered laid i s (Answers.Given (Number v)) w else refused w

abbrev pub load_step : LaidTree → ℕ → Standing → ℤ → Scalar → Bool → Option Content → World → Outcome
load_step laid i s v scalar volatile None w = refused w
load_step laid i s v scalar true (Some c) w = openly laid i s v (is_of laid scalar (Number v)) w
load_step laid i s v scalar false (Some Open) w = openly laid i s v (is_of laid scalar (Number v)) w
load_step laid i s v scalar false (Some (Is x)) w = plainly v (answered laid i s (Answers.Given x) w) w

abbrev pub store_step : LaidTree → ℕ → Standing → ℤ → ℕ → Value → Option Content → World → Outcome
store_step laid i s v c x None w = refused w
store_step laid i s v c x (Some old) w =
    plainly v (answered laid i s Answers.Done (record w { contents = slice_set w.contents c (Is x) })) w

abbrev pub lock_step : LaidTree → ℕ → Standing → ℕ → Place → World → Outcome
lock_step laid i s m p w =
    if holds m s then halted Classes.Lock p w
    else if is_taken m w.standings then did (stand i (with_status (Blocked m) s) w)
    else answered laid i (with_mutex m true s) Answers.Done w

abbrev pub unlock_step : LaidTree → ℕ → Standing → ℕ → Place → World → Outcome
unlock_step laid i s m p w =
    if holds m s then answered laid i (with_mutex m false s) Answers.Done (freed m w) else halted Classes.Lock p w

-- a task that yields waits; the initial section stays ready
abbrev pub yielded : LaidTree → ℕ → Standing → Standing
yielded laid i s = with_status (if is_section laid i then Ready else Waiting) s

-- a task that may run, by its next action
unfoldable pub act_step : LaidTree → ℕ → Standing → ℤ → Next → World → Outcome
act_step laid i s v (Acts.Load o k scalar volatile p) w = load_step laid i s v scalar volatile
    (slice_get w.contents (cell_of laid o k)) w
act_step laid i s v (Acts.Store o k scalar x p) w =
    store_step laid i s v (cell_of laid o k) x (slice_get w.contents (cell_of laid o k)) w
act_step laid i s v (Acts.Chosen low high) w = openly laid i s v (is_between low high (Number v)) w
act_step laid i s v (Acts.Clear o) w = plainly v (answered laid i s Answers.Done (cleared laid o w)) w
act_step laid i s v (Acts.Lock m p) w = plainly v (lock_step laid i s m p w) w
act_step laid i s v (Acts.Unlock m p) w = plainly v (unlock_step laid i s m p w) w
act_step laid i s v Acts.Yield w = plainly v (answered laid i (yielded laid i s) Answers.Done w) w
act_step laid i s v (Acts.Probe m p) w = plainly v
    (answered laid i s (Answers.Given (truth_value (is_taken m w.standings))) w) w
act_step laid i s v (Acts.Fault class p) w = plainly v (halted class p w) w
act_step laid i s v Acts.Spins w = plainly v (did w) w
act_step laid i s v Acts.Ended w = refused w
act_step laid i s v Acts.Misfit w = refused w

abbrev pub run_step : LaidTree → ℕ → ℤ → Option Standing → World → Outcome
run_step laid i v None w = refused w
run_step laid i v (Some s) w =
    if is_ready s.status && none_above s.priority w.standings then act_step laid i s v (next_at laid w i) w else refused
    w

-- there is no initial section, or it is done
abbrev pub is_section_done : Option Standing → Bool
is_section_done None = true
is_section_done (Some s) = is_done s.status

abbrev pub tasks_may_run : LaidTree → World → Bool
tasks_may_run laid w = is_section_done (slice_get w.standings (length laid.file.tasks))

abbrev pub wake_step : LaidTree → ℕ → Option Standing → World → Outcome
wake_step laid i None w = refused w
wake_step laid i (Some s) w =
    if tasks_may_run laid w && is_waiting s.status then did (stand i (with_status Ready s) w) else refused w

abbrev pub chosen_step : LaidTree → World → Choice → Outcome
chosen_step laid w (Wake i) = wake_step laid i (slice_get w.standings i) w
chosen_step laid w (Run i v) = run_step laid i v (slice_get w.standings i) w

-- A step: what a choice leads to. After an error nothing is allowed.
unfoldable pub step : LaidTree → World → Choice → Outcome
step laid w c = if w.stopped then refused w else chosen_step laid w c
