-- Runs of small programs of tasks, choice by choice.
use Rattle.std.proofs.Common.{◌≡◌, ℕ, suc, refl, false, ℤ, pos, negsuc, List, [], ◌∷◌, ◌++◌, map, Option, Some, None}
use Rattle.tm_cint.specs.declared.Class.TheVariants as Classes
use Rattle.tm_cint.specs.declared.int_types.IntType.TheVariants as Ints
use Rattle.tm_cint.specs.declared.operators.BinOp.TheVariants as Ops
use Rattle.tm_terms.specs.declared.places.Place.{Place}
use Rattle.tm_terms.specs.declared.tokens.Name.{Name}
use Rattle.concrete_values.specs.tm_typed.declared.types.Scalar.{Scalar}
use Rattle.concrete_values.specs.tm_typed.declared.types.Scalar.TheVariants as Scalars
use Rattle.concrete_values.specs.tm_typed.declared.scopes.ObjectNumber.TheVariants.{Static, Local}
use Rattle.concrete_values.specs.tm_typed.declared.files.TypedTask.{TypedTask}
use Rattle.concrete_values.specs.tm_typed.Types.{first_types}
use Rattle.concrete_values.specs.tm_typed.TypedTrees.{RvalueTree, a_constant, a_load, a_binary, an_assignment, a_probe}
use Rattle.concrete_values.specs.tm_typed.TypedTrees.{an_object}
use Rattle.concrete_values.specs.tm_typed.TypedStatements.{TypedTree, declares, evaluates, locks, unlocks, yields}
use Rattle.concrete_values.specs.tm_typed.TypedStatements.{loops_while, TypedTrees, no_statements, and_statement}
use Rattle.concrete_values.specs.tm_typed.Files.{TypedFunctionTree}
use Rattle.concrete_values.specs.tm_laid.declared.paths.CallPath.{CallPath}
use Rattle.concrete_values.specs.tm_laid.declared.objects.LaidObject.{LaidObject}
use Rattle.concrete_values.specs.tm_laid.declared.objects.Initial.TheVariants as Initials
use Rattle.concrete_values.specs.tm_laid.Layouts.{LaidTree}
use Rattle.concrete_values.specs.declared.values.Value.TheVariants.{Number}
use Rattle.concrete_values.specs.Values.{is_true, number_of, pointer_of, number_in}
use Rattle.concrete_values.specs.Operators.{binary}
use Rattle.concrete_values.specs.Pointers.{size_of, pointer_in, base}
use Rattle.concrete_values.specs.Actions.{load_at, store_at, clear_at, is_of, answer_of}
use Rattle.concrete_steps.specs.declared.worlds.Content.TheVariants.{Open, Is}
use Rattle.concrete_steps.specs.declared.worlds.Status.{Status}
use Rattle.concrete_steps.specs.declared.worlds.Status.TheVariants.{Waiting, Ready, Blocked, Done}
use Rattle.concrete_steps.specs.declared.worlds.Choice.{Choice}
use Rattle.concrete_steps.specs.declared.worlds.Choice.TheVariants.{Wake, Run}
use Rattle.concrete_steps.specs.declared.worlds.Stepped.{Stepped}
use Rattle.concrete_steps.specs.declared.worlds.Stepped.TheVariants as Steps
use Rattle.concrete_steps.specs.NextAction.{next}
use Rattle.concrete_steps.specs.Worlds.{World, next_at, start, act_step, step}

-- ## Programs: objects `int` with initial values, one mutex, tasks by priority and body, and an initial section or none

abbrev at : ℕ → Place
at n = record { line = 1; col = n }

abbrev name : Name
name = record { start = 0; length = 0 }

abbrev int : Scalar
int = Scalars.Int Ints.Int

abbrev object : ℕ → LaidObject
object k = record {
  name = name;
  place = at 1;
  of = record { number = 6; constant = false; volatile = false };
  owner = None;
  first_cell = k;
  cells = 1;
  first_abstract = k;
  abstract_cells = 1;
}

abbrev function : TypedTrees → TypedFunctionTree
function ss = record {
  name = name;
  place = at 1;
  result = 0;
  parameters = [];
  body = Some (record { locals = []; parameters = 0; statements = ss });
}

abbrev path : ℕ → CallPath
path k = record { body = k; function = k; caller = None; paths = 1 }

abbrev from : {A : Type 0} → {B : Type 0} → (ℕ → A) → ℕ → List B → List A
from f k [] = []
from f k (b ∷ bs) = f k ∷ from f (suc k) bs

abbrev tasks_from : ℕ → List ℕ → List TypedTask
tasks_from k [] = []
tasks_from k (p ∷ ps) = record { function = k; priority = p } ∷ tasks_from (suc k) ps

abbrev program : List ℤ → List ℕ → List TypedTrees → Option ℕ → LaidTree
program values priorities bodies main = record {
  file = record {
    types = first_types;
    structs = [];
    statics = [];
    functions = map function bodies;
    calls = map (λ b. []) bodies;
    tasks = tasks_from 0 priorities;
    mutexes = record { name = name; place = at 1 } ∷ [];
    main = main;
    lengths = [];
    constants = [];
    labels = [];
    sizes = [];
  };
  bodies = from (λ k. k) 0 bodies;
  first_paths = from (λ k. k) 0 bodies;
  paths = from path 0 bodies;
  callees = map (λ b. []) bodies;
  first_objects = map (λ b. 0) bodies;
  statics = from (λ k. k) 0 values;
  objects = from object 0 values;
  cells = from (λ k. record { object = k; scalar = int; abstract_cell = k }) 0 values;
  abstract_cells = [];
  initial = map (λ z. Initials.Number z) values;
}

abbrev number : ℕ → RvalueTree
number n = a_constant Ints.Int (pos n) (at 99)

abbrev value : ℕ → ℕ → RvalueTree
value k p = a_load int false (an_object (Static k) (at p))

abbrev sets : ℕ → RvalueTree → ℕ → TypedTree
sets k e p = evaluates (Some (an_assignment int (an_object (Static k) (at p)) e (at p)))

abbrev block : List TypedTree → TypedTrees
block [] = no_statements
block (s ∷ ss) = and_statement s (block ss)

-- the world after some choices, whatever they led to
abbrev after : LaidTree → World → List Choice → World
after laid w [] = w
after laid w (c ∷ cs) = after laid (step laid w c).world cs

abbrev all : LaidTree → List Choice → World
all laid cs = after laid (start laid) cs

-- what the choice behind some others leads to
abbrev leads : LaidTree → List Choice → Choice → Stepped
leads laid cs c = (step laid (all laid cs) c).answer

abbrev statuses : World → List Status
statuses w = map (λ s. s.status) w.standings

-- ## A mutex: `__lock(m); x = 0; x = 1; __unlock(m);` and `__lock(m); r = 10 / x; __unlock(m);`, both of priority 1

abbrev shared : LaidTree
shared =
    program (pos 1 ∷ pos 0 ∷ []) (1 ∷ 1 ∷ [])
    (block (locks 0 (at 1) ∷ sets 0 (number 0) 2 ∷ sets 0 (number 1) 3 ∷ unlocks 0 (at 4) ∷ [])
    ∷ block (locks 0 (at 11) ∷ sets 1 (a_binary Ops.Div Ints.Int (number 10) (value 0 12) (at 13)) 14 ∷ unlocks 0 (at 15) ∷ []) ∷ []) None

both_wait : statuses (all shared []) ≡ Waiting ∷ Waiting ∷ []
unfolding start next
both_wait = refl

not_woken : leads shared [] (Run 0 (pos 0)) ≡ Steps.NotAllowed
unfolding start next next_at step
not_woken = refl

abbrev woken : List Choice
woken = Wake 0 ∷ Wake 1 ∷ Run 0 (pos 0) ∷ []

takes : leads shared (Wake 0 ∷ Wake 1 ∷ []) (Run 0 (pos 0)) ≡ Steps.Done
unfolding start next next_at step act_step answer_of
takes = refl

waits_for : leads shared woken (Run 1 (pos 0)) ≡ Steps.Done
unfolding start next next_at step act_step answer_of base pointer_in size_of store_at pointer_of
waits_for = refl

is_blocked : statuses (all shared (woken ++ Run 1 (pos 0) ∷ [])) ≡ Ready ∷ Blocked 0 ∷ []
unfolding start next next_at step act_step answer_of base pointer_in size_of store_at pointer_of
is_blocked = refl

blocked_waits : leads shared (woken ++ Run 1 (pos 0) ∷ []) (Run 1 (pos 0)) ≡ Steps.NotAllowed
unfolding start next next_at step act_step answer_of base pointer_in size_of store_at pointer_of
blocked_waits = refl

-- the unlock wakes it, and its lock is still its next action; the first task is done
abbrev unlocked : List Choice
unlocked = woken ++ Run 1 (pos 0) ∷ Run 0 (pos 0) ∷ Run 0 (pos 0) ∷ Run 0 (pos 0) ∷ []

wakes : statuses (all shared unlocked) ≡ Done ∷ Ready ∷ []
unfolding start next next_at step act_step answer_of base pointer_in size_of store_at pointer_of
wakes = refl

divides : (all shared (unlocked ++ Run 1 (pos 0) ∷ Run 1 (pos 0) ∷ Run 1 (pos 0) ∷ [])).contents ≡ Is (Number (pos 1)) ∷ Is (Number (pos 10)) ∷ []
unfolding start next next_at step act_step answer_of base pointer_in size_of load_at store_at pointer_of is_of binary number_in number_of
divides = refl

-- ## Priorities: `x = 5; r = 10 / x;` of priority 2, and `x = 0;` of priority 1

abbrev urgent : LaidTree
urgent =
    program (pos 0 ∷ pos 0 ∷ []) (2 ∷ 1 ∷ [])
    (block (sets 0 (number 5) 26 ∷ sets 1 (a_binary Ops.Div Ints.Int (number 10) (value 0 34) (at 33)) 30 ∷ []) ∷ block (sets 0 (number 0) 27 ∷ []) ∷ []) None

abbrev preempts : List Choice
preempts = Wake 1 ∷ Run 1 (pos 0) ∷ Wake 0 ∷ Run 0 (pos 0) ∷ Run 0 (pos 0) ∷ Run 0 (pos 0) ∷ []

all_done : statuses (all urgent preempts) ≡ Done ∷ Done ∷ []
unfolding start next next_at step act_step answer_of base pointer_in size_of load_at store_at pointer_of is_of binary number_in number_of
all_done = refl

two : (all urgent preempts).contents ≡ Is (Number (pos 5)) ∷ Is (Number (pos 2)) ∷ []
unfolding start next next_at step act_step answer_of base pointer_in size_of load_at store_at pointer_of is_of binary number_in number_of
two = refl

-- the task of lower priority may not run while the other is ready
not_first : leads urgent (Wake 1 ∷ Wake 0 ∷ []) (Run 1 (pos 0)) ≡ Steps.NotAllowed
unfolding start next next_at step base pointer_in size_of store_at pointer_of
not_first = refl

-- ## `x = 1 / x;`: the load, and then the error ends the run

abbrev zero_divisor : LaidTree
zero_divisor = program (pos 0 ∷ []) (1 ∷ []) (block (sets 0 (a_binary Ops.Div Ints.Int (number 1) (value 0 28) (at 27)) 25 ∷ []) ∷ []) None

stops : leads zero_divisor (Wake 0 ∷ Run 0 (pos 0) ∷ []) (Run 0 (pos 0)) ≡ Steps.Stopped Classes.Div (at 27)
unfolding start next next_at step act_step answer_of base pointer_in size_of load_at pointer_of is_of binary number_in number_of
stops = refl

nothing_after : leads zero_divisor (Wake 0 ∷ Run 0 (pos 0) ∷ Run 0 (pos 0) ∷ []) (Run 0 (pos 0)) ≡ Steps.NotAllowed
unfolding start next next_at step act_step answer_of base pointer_in size_of load_at pointer_of is_of binary number_in number_of
nothing_after = refl

-- a number other than 0 is not allowed where the action leaves nothing open
other_number : leads zero_divisor (Wake 0 ∷ []) (Run 0 (pos 1)) ≡ Steps.NotAllowed
unfolding start next next_at step act_step base pointer_in size_of load_at pointer_of
other_number = refl

-- ## An initial section: `int main(void) { __lock(m); x = 5; }`, and a task `r = 10 / x;`

abbrev begun : LaidTree
begun =
    program (pos 0 ∷ pos 0 ∷ []) (1 ∷ [])
    (block (sets 1 (a_binary Ops.Div Ints.Int (number 10) (value 0 31) (at 30)) 28 ∷ []) ∷ block (locks 0 (at 41) ∷ yields ∷ sets 0 (number 5) 44 ∷ []) ∷ []) (Some 1)

not_yet : leads begun [] (Wake 0) ≡ Steps.NotAllowed
unfolding start next next_at step
not_yet = refl

-- its yield leaves it ready
stays_ready : statuses (all begun (Run 1 (pos 0) ∷ Run 1 (pos 0) ∷ [])) ≡ Waiting ∷ Ready ∷ []
unfolding start next next_at step act_step answer_of base pointer_in size_of load_at store_at pointer_of
stays_ready = refl

-- and where it is done, its mutex is free, and the task may be woken
frees : map (λ s. s.held) (all begun (Run 1 (pos 0) ∷ Run 1 (pos 0) ∷ Run 1 (pos 0) ∷ [])).standings ≡ (false ∷ []) ∷ (false ∷ []) ∷ []
unfolding start next next_at step act_step answer_of base pointer_in size_of load_at store_at pointer_of
frees = refl

abbrev goes : List Choice
goes = Run 1 (pos 0) ∷ Run 1 (pos 0) ∷ Run 1 (pos 0) ∷ Wake 0 ∷ Run 0 (pos 0) ∷ Run 0 (pos 0) ∷ []

after_section : (all begun goes).contents ≡ Is (Number (pos 5)) ∷ Is (Number (pos 2)) ∷ []
unfolding start next next_at step act_step answer_of base pointer_in size_of load_at store_at pointer_of is_of binary number_in number_of
after_section = refl

not_again : leads begun goes (Run 1 (pos 0)) ≡ Steps.NotAllowed
unfolding start next next_at step act_step answer_of base pointer_in size_of load_at store_at pointer_of is_of binary number_in number_of
not_again = refl

-- ## Locks: a relock, a foreign unlock, a yield that keeps the mutex, and `__islocked`

abbrev alone : List TypedTree → LaidTree
alone ss = program (pos 0 ∷ []) (1 ∷ 1 ∷ []) (block ss ∷ block (sets 0 (a_probe 0 (at 50)) 51 ∷ []) ∷ []) None

relocks : leads (alone (locks 0 (at 1) ∷ locks 0 (at 2) ∷ [])) (Wake 0 ∷ Run 0 (pos 0) ∷ []) (Run 0 (pos 0)) ≡ Steps.Stopped Classes.Lock (at 2)
unfolding start next next_at step act_step answer_of base pointer_in size_of store_at pointer_of
relocks = refl

unlocks_foreign : leads (alone (unlocks 0 (at 1) ∷ [])) (Wake 0 ∷ []) (Run 0 (pos 0)) ≡ Steps.Stopped Classes.Lock (at 1)
unfolding start next next_at step act_step answer_of base pointer_in size_of store_at pointer_of
unlocks_foreign = refl

abbrev keeps : LaidTree
keeps = alone (locks 0 (at 1) ∷ yields ∷ unlocks 0 (at 3) ∷ [])

yield_waits : statuses (all keeps (Wake 0 ∷ Run 0 (pos 0) ∷ Run 0 (pos 0) ∷ [])) ≡ Waiting ∷ Waiting ∷ []
unfolding start next next_at step act_step answer_of base pointer_in size_of store_at pointer_of
yield_waits = refl

finds_held : (all keeps (Wake 0 ∷ Run 0 (pos 0) ∷ Run 0 (pos 0) ∷ Wake 1 ∷ Run 1 (pos 0) ∷ Run 1 (pos 0) ∷ [])).contents ≡ Is (Number (pos 1)) ∷ []
unfolding start next next_at step act_step answer_of base pointer_in size_of store_at pointer_of
finds_held = refl

-- a loop that does nothing spins, and the task stays ready
spins : statuses (all (alone (loops_while (number 1) (evaluates None) ∷ [])) (Wake 0 ∷ Run 0 (pos 0) ∷ Run 0 (pos 0) ∷ [])) ≡ Ready ∷ Waiting ∷ []
unfolding start next next_at step act_step answer_of base pointer_in size_of store_at pointer_of is_true
spins = refl

-- a task with nothing to do is done from the start
nothing_to_do : statuses (all (alone []) []) ≡ Done ∷ Waiting ∷ []
unfolding start next base pointer_in size_of store_at pointer_of
nothing_to_do = refl

-- ## A local object that is cleared: `int i; x = i;`

abbrev clears : LaidTree
clears =
    record
    (alone
    (declares (record { object = 0; initialiser = None } ∷ []) ∷ sets 0 (a_load int false (an_object (Local 0) (at 9))) 7 ∷ [])) {
      first_objects = 1 ∷ 2 ∷ [];
      objects = object 0 ∷ record (object 1) { owner = Some 0 } ∷ [];
      cells =
          record { object = 0; scalar = int; abstract_cell = 0 } ∷ record { object = 1; scalar = int; abstract_cell = 1 } ∷ [];
    }

is_open : (all clears (Wake 0 ∷ Run 0 (pos 0) ∷ [])).contents ≡ Is (Number (pos 0)) ∷ Open ∷ []
unfolding start next next_at step act_step answer_of clear_at base pointer_in size_of load_at store_at pointer_of
is_open = refl

-- each read gives any value of the type
reads_any :
    (all clears (Wake 0 ∷ Run 0 (pos 0) ∷ Run 0 (negsuc 6) ∷ Run 0 (pos 0) ∷ [])).contents ≡ Is (Number (negsuc 6)) ∷ Open ∷ []
unfolding start next next_at step act_step answer_of clear_at base pointer_in size_of load_at store_at pointer_of is_of
reads_any = refl

out_of_range : leads clears (Wake 0 ∷ Run 0 (pos 0) ∷ []) (Run 0 (pos 2147483648)) ≡ Steps.NotAllowed
unfolding start next next_at step act_step answer_of clear_at base pointer_in size_of load_at store_at pointer_of is_of
out_of_range = refl
