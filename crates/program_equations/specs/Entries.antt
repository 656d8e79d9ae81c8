-- Where control begins: the state at the entry of the initial section, or of the tasks where there is none; and that of
-- the tasks after an initial section.
use Rattle.std.specs.Prelude.{ℕ, zero, suc, ◌==◌, Bool, true, false, not, cond, List, [], ◌∷◌, length}
use Rattle.std.specs.Prelude.{slice_get, get_or, Option, Some, None}
use Rattle.std.specs.FinMap.{empty as no_entry, insert}
use Rattle.std.specs.Option.{option_map}
use Rattle.edge_filters.specs.strided_dom.Progression.{single}
use Rattle.region_cells.specs.tm_lattice.Tables.{Table, joined_at}
use Rattle.region_cells.specs.tm_laid.declared.objects.Initial.{Initial}
use Rattle.region_cells.specs.tm_laid.declared.objects.Initial.TheVariants as Initials
use Rattle.region_cells.specs.tm_laid.Layouts.{LaidTree, abstract_at, cell_at}
use Rattle.region_cells.specs.flow_graph.Graphs.{Edges}
use Rattle.edge_filters.specs.pointer_dom.Values.{Values, joined_values, no_value}
use Rattle.edge_filters.specs.cell_env.States.{joined_state}
use Rattle.edge_filters.specs.transfer_rows.StateForms.{Cell, State, only_numbers, only_pointers, own_of}
use Rattle.edge_filters.specs.edge_actions.Edges.{only_null, pointer_within}
use Rattle.edge_filters.specs.edge_actions.Layouts.{open_value, is_reachable, is_shared_cell}
use Rattle.region_cells.specs.tm_laid.Layouts.{object_at}
use Rattle.task_equations.specs.table_covers.Solutions.{NodeTable}
use Rattle.task_equations.specs.mutex_configs.declared.nodes.ConfiguredNode.{ConfiguredNode}
use Rattle.task_equations.specs.mutex_configs.Nodes.{entry_node}
use Rattle.task_equations.specs.Bodies.{Body}

-- ## Before the program runs

-- what a cell of static storage holds before the program runs (C99 6.7.8)
abbrev pub initial_value : LaidTree → Initial → Values
initial_value laid (Initials.Number n) = only_numbers (single n)
initial_value laid Initials.Null = only_pointers only_null
initial_value laid (Initials.To object offset) =
    only_pointers (pointer_within object (object_at laid object).cells offset)

-- nothing where the cell is not of static storage
abbrev pub initial_or_none : LaidTree → Option Initial → Values
initial_or_none laid None = no_value
initial_or_none laid (Some v) = initial_value laid v

abbrev pub initial_at : LaidTree → ℕ → Values
initial_at laid cell = initial_or_none laid (slice_get laid.initial cell)

-- the join of what those of the cells below a number hold for which an abstract cell stands
abbrev pub initial_below : LaidTree → ℕ → ℕ → Values
initial_below laid zero x = no_value
initial_below laid (suc cell) x = cond ((cell_at laid cell).abstract_cell == x)
    (joined_values (initial_below laid cell x) (initial_at laid cell)) (initial_below laid cell x)

-- what an abstract cell of static storage may hold
abbrev pub initial_of : LaidTree → ℕ → Values
initial_of laid x = initial_below laid (length laid.initial) x

-- ## Entries

-- a cell of static storage has the value that is given, and a local one any that a cell may hold that was not stored
-- yet; no mutex is pending, and it is neither fresh nor stored
abbrev pub entry_cell : LaidTree → (ℕ → Values) → ℕ → Cell
entry_cell laid shared x = record {
  value = cond (is_shared_cell laid x) (shared x) (open_value (abstract_at laid x).scalar);
  pending = 0;
  fresh = false;
  stored = false;
}

-- those of the abstract cells below a number that are static or the body's own
abbrev pub entry_cells : LaidTree → ℕ → (ℕ → Values) → ℕ → Table Cell
entry_cells laid task shared zero = no_entry
entry_cells laid task shared (suc x) = cond (is_reachable laid task (abstract_at laid x).object)
    (insert (entry_cells laid task shared x) x (entry_cell laid shared x)) (entry_cells laid task shared x)

-- the state at the entry of a body where cells of static storage have these values: no temporary has one
abbrev pub entry_state : LaidTree → ℕ → (ℕ → Values) → State
entry_state laid task shared = record {
  temps = no_entry;
  cells = entry_cells laid task shared (length laid.abstract_cells);
}

-- before anything has run
abbrev pub first_state : LaidTree → ℕ → State
first_state laid task = entry_state laid task (initial_of laid)

-- ## After the initial section

-- an edge leaves the place
abbrev pub is_left : Edges → ℕ → Bool
is_left [] place = false
is_left (e ∷ graph) place = cond (e.from == place) true (is_left graph place)

-- a body with these edges and nodes ends at the node: no edge leaves its place
abbrev pub is_end : Edges → List ConfiguredNode → ℕ → Bool
is_end graph nodes n = let q = get_or nodes n entry_node in not (is_left graph q.place)

-- the join of the states at those of the nodes below a number at which the body ends; none where none is reached
abbrev pub ended_below : Edges → List ConfiguredNode → NodeTable State → ℕ → Option State
ended_below graph nodes table zero = None
ended_below graph nodes table (suc n) = cond (is_end graph nodes n)
    (joined_at (joined_state joined_values) (ended_below graph nodes table n) (table n))
    (ended_below graph nodes table n)

-- the state in which the body ends
abbrev pub ended_in : Edges → List ConfiguredNode → NodeTable State → Option State
ended_in graph nodes table = ended_below graph nodes table (length nodes)

abbrev pub ended : Body → NodeTable State → Option State
ended b table = ended_in b.edges b.nodes table

-- The state at the entry of a task after another body has ended: cells of static storage keep their values. None where
-- it does not end.
abbrev pub later_state : LaidTree → ℕ → Option State → Option State
later_state laid task state = option_map (λ s. entry_state laid task (own_of s)) state
