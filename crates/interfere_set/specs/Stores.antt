-- The store of interferences: what the tasks wrote, and what a task sees of it and is handed. The partition by sets of
-- mutexes is that of Miné, LMCS 2012; what is visible to whom, with mutexes that were found free, is a rule of its own.
use Rattle.std.specs.Prelude.{◌≡◌, ℕ, ◌+◌, ◌<◌, ℤ, Bool, ◌&&◌, ◌||◌, not, cond, eqb, leb, bit_and, slice_index_or}
use Rattle.std.specs.Prelude.{List, [], ◌∷◌, Option, Some, None}
use Rattle.std.specs.FinMap as map
use Rattle.std.specs.FinMap.{get, entries}
use Rattle.tm_lattice.specs.Heights.{table_height}
use Rattle.tm_lattice.specs.Tables.{Table, IsTable, IsTableBelow, joined_table, rounded_table}
use Rattle.pointer_dom.specs.Values.{Values, IsValues, IsValuesBelow, joined_values, rounded_values, no_value}

-- values by task, held set and cell, or by task, mutex and cell
abbrev pub Nested : Type 0
Nested = Table (Table (Table Values))

-- weak entries by task, held set and cell; sync entries by task, mutex and cell
pub record Interferences : Type 0 where
  pub weak : Nested
  pub sync : Nested

-- a table has no entry
abbrev pub HasNoEntry : {V : Type 0} → Table V → Type 0
HasNoEntry t = t ≡ map.empty

-- no entry is nothing, and no table is empty, at each level
abbrev pub IsNested : Nested → Type 0
IsNested n = IsTable (IsTable (IsTable IsValues (λ v. v ≡ no_value)) HasNoEntry) HasNoEntry n

-- the order goes entry by entry
abbrev pub IsNestedBelow : Nested → Nested → Type 0
IsNestedBelow n m = IsTableBelow (IsTableBelow (IsTableBelow IsValuesBelow)) n m

pub record IsStore (store : Interferences) : Type 0 where
  pub weak : IsNested store.weak
  pub sync : IsNested store.sync

pub record IsStoreBelow (store other : Interferences) : Type 0 where
  pub weak : IsNestedBelow store.weak other.weak
  pub sync : IsNestedBelow store.sync other.sync

-- what stands at a key; nothing where it is absent
abbrev pub value_or_none : Option Values → Values
value_or_none None = no_value
value_or_none (Some v) = v

-- a value joined with what each of the elements has
abbrev pub joined_onto : {A : Type 0} → (A → Values) → Values → List A → Values
joined_onto part v [] = v
joined_onto part v (x ∷ xs) = joined_onto part (joined_values v (part x)) xs

-- the join of what each of the elements has
abbrev pub joined_all : {A : Type 0} → (A → Values) → List A → Values
joined_all part xs = joined_onto part no_value xs

-- two sets of mutexes have none in common
abbrev pub are_apart : ℕ → ℕ → Bool
are_apart l h = eqb (bit_and l h) 0

-- a task at a node: its number, the mutexes that it holds there, and those that it found free
pub record Reader : Type 0 where
  pub task : ℕ
  pub held : ℕ
  pub found : ℕ
  -- the priorities of the tasks
  pub priority : ℕ → ℕ

-- the reader with this number, these sets of mutexes and these priorities of the tasks
abbrev pub reader_of : ℕ → ℕ → ℕ → List ℕ → Reader
reader_of task held found priorities = record {
  task = task;
  held = held;
  found = found;
  priority = λ j. slice_index_or priorities j 0;
}

-- the reader sees what task j wrote with the mutexes l held: j is another task, no mutex of l is held by the reader,
-- and either j is at
-- least as urgent, or the cell is not fresh and no mutex of l was found free.
abbrev pub is_visible : Reader → Bool → ℕ → ℕ → Bool
is_visible reader fresh j l = not (eqb j reader.task) &&
    (are_apart l reader.held && (leb (reader.priority reader.task) (reader.priority j) ||
    (not fresh && are_apart l reader.found)))

-- what the reader sees in the cell of the entries that task j wrote with these mutexes held
abbrev pub shown_at : Reader → Bool → ℕ → ℕ → ℕ × Table Values → Values
shown_at reader fresh x j e = cond (is_visible reader fresh j e.0) (value_or_none (get e.1 x)) no_value

-- what the reader sees in the cell of the entries of one task: by held set
abbrev pub seen_of_task : Reader → Bool → ℕ → ℕ → Table (Table Values) → Values
seen_of_task reader fresh x j written = joined_all (shown_at reader fresh x j) (entries written)

-- visible: what the reader sees in the cell
abbrev pub visible : Reader → Bool → ℕ → Interferences → Values
visible reader fresh x store = joined_all (λ (e : ℕ × Table (Table Values)). seen_of_task reader fresh x e.0 e.1)
    (entries store.weak)

-- what stands at the cell; nothing where there is no table
abbrev pub left_in : ℕ → Option (Table Values) → Values
left_in x None = no_value
left_in x (Some cells) = value_or_none (get cells x)

-- what a task left in the cell under the mutex, of its entries
abbrev pub left_at : ℕ → ℕ → Table (Table Values) → Values
left_at mutex x left = left_in x (get left mutex)

-- handed: what the other tasks left in the cell under the mutex
abbrev pub handed : ℕ → ℕ → ℕ → Interferences → Values
handed task mutex x store = joined_all (λ (e : ℕ × Table (Table Values)). cond (eqb e.0 task) no_value
    (left_at mutex x e.1)) (entries store.sync)

-- one entry, by its three numbers
abbrev pub nested_entry : ℕ → ℕ → ℕ → Values → Nested
nested_entry task set cell v = map.insert map.empty task (map.insert map.empty set (map.insert map.empty cell v))

-- no entry
abbrev pub no_interference : Interferences
no_interference = record { weak = map.empty; sync = map.empty }

-- each task with weak entries has a priority
abbrev pub HavePriorities : Interferences → ℕ → Type 0
HavePriorities store tasks = (j : ℕ) (written : Table (Table Values)) → get store.weak j ≡ Some written → j < tasks

-- how high a store stands, where its values have a height
abbrev pub store_height : (Values → ℕ) → Interferences → ℕ
store_height height store =
    table_height (table_height (table_height height)) store.weak + table_height
    (table_height (table_height height)) store.sync

abbrev pub joined_nested : Nested → Nested → Nested
joined_nested = joined_table (joined_table (joined_table joined_values))

-- stores are joined entry by entry
abbrev pub joined_store : Interferences → Interferences → Interferences
joined_store store other = record {
  weak = joined_nested store.weak other.weak;
  sync = joined_nested store.sync other.sync;
}

abbrev pub rounded_nested : List ℤ → Nested → Nested
rounded_nested marks = rounded_table (rounded_table (rounded_table (rounded_values marks)))

-- every entry is rounded
abbrev pub rounded_store : List ℤ → Interferences → Interferences
rounded_store marks store = record { weak = rounded_nested marks store.weak; sync = rounded_nested marks store.sync }
