-- Nested tables of entries, and the entries one after another.
use Rattle.std.specs.Prelude.{ℕ, ◌<◌, ◌≤◌, List, [], ◌∷◌}
use Rattle.std.specs.FinMap.{entries}
use Rattle.tm_lattice.specs.Tables.{Table}
use Rattle.pointer_dom.specs.Values.{Values}
use Rattle.certificate_reading.specs.declared.entries.Place.{Place}
use Rattle.certificate_reading.specs.declared.entries.Entry.{Entry}
use Rattle.certificate_reading.specs.declared.growing.Growing.{Growing}
use Rattle.certificate_reading.specs.Entries.{place_number}

abbrev pub place_of : ℕ → ℕ → ℕ → Place
place_of task set cell = record { task = task; set = set; cell = cell }

-- an entry with the number of its place
abbrev pub numbered_entry : ℕ → ℕ → ℕ × Values → ℕ × Entry
numbered_entry task set e =
    (place_number (place_of task set e.0), record { place = place_of task set e.0; value = e.1 })

-- the entries of a task under one set of mutexes or one mutex, then others
abbrev pub cell_entries : ℕ → ℕ → List (ℕ × Values) → List (ℕ × Entry) → List (ℕ × Entry)
cell_entries task set [] rest = rest
cell_entries task set (e ∷ es) rest = numbered_entry task set e ∷ cell_entries task set es rest

-- those of a task, then others
abbrev pub set_entries : ℕ → List (ℕ × Table Values) → List (ℕ × Entry) → List (ℕ × Entry)
set_entries task [] rest = rest
set_entries task (e ∷ es) rest = cell_entries task e.0 (entries e.1) (set_entries task es rest)

-- those of all tasks, then others
abbrev pub task_entries : List (ℕ × Table (Table Values)) → List (ℕ × Entry) → List (ℕ × Entry)
task_entries [] rest = rest
task_entries (e ∷ es) rest = set_entries e.0 (entries e.1) (task_entries es rest)

-- ## Tables that grow

-- all keys are below a number
abbrev pub AllBelow : {V : Type 0} → ℕ → List (ℕ × V) → Type 0
AllBelow k [] = Unit {0}
AllBelow k (e ∷ es) = (e.0 < k) × AllBelow k es

-- the entries of the tasks that are done, of the sets of the next task that are done, and of the next set
abbrev pub grown : Growing → List (ℕ × Entry)
grown g = task_entries (entries g.tasks)
    (set_entries g.next.task (entries g.sets) (cell_entries g.next.task g.next.set (entries g.cells) []))

-- what is there stands before the next place
pub record IsGrowing (g : Growing) : Type 0 where
  pub tasks : AllBelow g.next.task (entries g.tasks)
  pub sets : AllBelow g.next.set (entries g.sets)
  pub cells : AllBelow g.next.cell (entries g.cells)
  pub set : g.next.set < 65536
  pub cell : g.next.cell ≤ 65536
