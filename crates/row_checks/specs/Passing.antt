-- When an edge that reached some cells looked at, touched and carried none but those that it may. No state is spoken of.
use Rattle.std.specs.Prelude.{ℕ, zero, suc, ◌+◌, ◌==◌, Bool, true, ◌&&◌, ◌||◌, not, eqb, bit_or, slice_index_or}
use Rattle.std.specs.Prelude.{List, length, Option, Some, None}
use Rattle.std.specs.List.{list_all}
use Rattle.std.specs.FinMap.{get, entries}
use Rattle.tm_laid.specs.Layouts.{LaidTree, laid_tree, object_at}
use Rattle.flow_graph.specs.declared.operations.Test.{Test}
use Rattle.flow_graph.specs.declared.operations.Test.TheVariants.{Numbers, Pointers, Truth, Case}
use Rattle.flow_graph.specs.declared.operations.Operation.{Operation}
use Rattle.flow_graph.specs.declared.operations.Operation.TheVariants as Op
use Rattle.tm_lattice.specs.Tables.{Table}
use Rattle.sparse_rows.specs.transfer_rows.interfere_set.pointer_dom.Values.{Values}
use Rattle.sparse_rows.specs.transfer_rows.interfere_set.Stores.{Interferences}
use Rattle.sparse_rows.specs.transfer_rows.Rows.{without}
use Rattle.edge_actions.specs.Layouts.{is_shared_cell}
use Rattle.edge_actions.specs.declared.views.EdgeView.{EdgeView}
use Rattle.cell_placings.specs.CellLists.{is_in, cells_at}
use Rattle.row_checks.specs.declared.traces.Traces.{Traces}
use Rattle.row_checks.specs.TracedCells.{may_copy, may_be_fresh, may_pend}

-- each number below this passes the test
abbrev pub all_below : (ℕ → Bool) → ℕ → Bool
all_below test zero = true
all_below test (suc n) = all_below test n && test n

-- all of these cells are in the set
abbrev pub are_in : List ℕ → List ℕ → Bool
are_in set cells = list_all (is_in set) cells

-- a load may look at the cell, and the temporary that it gives may be a copy of it
abbrev pub is_loaded_in : List ℕ → Traces → ℕ → ℕ → Bool
is_loaded_in looked traces t x = is_in looked x && may_copy traces t x

-- the mutexes may be pending at the cell, if it is shared
abbrev pub is_pending_in : LaidTree → Traces → ℕ → ℕ → Bool
is_pending_in laid traces held x =
    not (is_shared_cell laid x) || (bit_or held (may_pend traces x) == may_pend traces x)

-- a store may touch the cell and make it fresh, and the mutexes held may be pending there
abbrev pub is_stored_in : LaidTree → List ℕ → Traces → ℕ → ℕ → Bool
is_stored_in laid touched traces held x =
    is_in touched x && (may_be_fresh traces x && is_pending_in laid traces held x)

-- the abstract cells of the object are touched
abbrev pub is_cleared_in : LaidTree → List ℕ → ℕ → Bool
is_cleared_in laid touched object = (let o = object_at laid object in
    all_below (λ k. is_in touched (o.first_abstract + k)) o.abstract_cells)

-- the cells of which the temporary may be a copy are touched
abbrev pub are_copies_in : List ℕ → Traces → ℕ → Bool
are_copies_in touched traces t = are_in touched (cells_at traces.copies.items t)

-- those of which a tested temporary may be a copy are touched
abbrev pub is_tested_in : List ℕ → Traces → Test → Bool
is_tested_in touched traces (Numbers operator of left right) =
    are_copies_in touched traces left && are_copies_in touched traces right
is_tested_in touched traces (Pointers equal left right) =
    are_copies_in touched traces left && are_copies_in touched traces right
is_tested_in touched traces (Truth holds value) = are_copies_in touched traces value
is_tested_in touched traces (Case holds label value) = are_copies_in touched traces value

-- the cell of the entry is in the set, if it is shared
abbrev pub is_shared_in : LaidTree → List ℕ → ℕ × Values → Bool
is_shared_in laid set e = not (is_shared_cell laid e.0) || is_in set e.0

-- so is each cell of the table, if there is one
abbrev pub are_cells_in : LaidTree → List ℕ → Option (Table Values) → Bool
are_cells_in laid set None = true
are_cells_in laid set (Some cells) = list_all (is_shared_in laid set) (entries cells)

-- the shared cells in which the task of the entry left something under the mutex are in the set, if it is another one
abbrev pub is_left_in : LaidTree → List ℕ → ℕ → ℕ → ℕ × Table (Table Values) → Bool
is_left_in laid set task mutex e = eqb e.0 task || are_cells_in laid set (get e.1 mutex)

-- the shared cells in which other tasks left something under the mutex are in the set
abbrev pub is_handed_in : LaidTree → List ℕ → ℕ → ℕ → Interferences → Bool
is_handed_in laid set task mutex store = list_all (is_left_in laid set task mutex) (entries store.sync)

-- the cells that may be fresh are in the set too, for a task that locks the mutex may wait
abbrev pub is_locked_in : LaidTree → List ℕ → Traces → ℕ → ℕ → Interferences → Bool
is_locked_in laid set traces task mutex store =
    are_in set traces.fresh && is_handed_in laid set task mutex store

-- where the mutex is found held nothing is taken over
abbrev pub is_probed_in : LaidTree → List ℕ → Bool → ℕ → ℕ → Interferences → Bool
is_probed_in laid set answer task mutex store = answer || is_handed_in laid set task mutex store

-- the mutex is not in the set
abbrev pub is_kept : ℕ → ℕ → Bool
is_kept mutex set = without set mutex == set

-- the cells at which the mutex may be pending are in the set
abbrev pub is_unlocked_in : List ℕ → List ℕ → ℕ → Bool
is_unlocked_in set pending mutex =
    all_below (λ x. is_kept mutex (slice_index_or pending x 0) || is_in set x) (length pending)

-- An edge of this operation that reaches these targets over the store looks at, touches and changes one by one no cells
-- but those that it may, and makes no copies, fresh cells and pending mutexes but those that there may be.
unfoldable pub passes_of : LaidTree → ℕ → ℕ → Bool → Operation → List ℕ → List ℕ → List ℕ → Traces → List ℕ
    → Interferences → Bool
passes_of laid task held answer (Op.Load to address scalar place) touched carried looked traces targets store =
    list_all (is_loaded_in looked traces to) targets
passes_of laid task held answer (Op.Store address value scalar into place) touched carried looked traces targets store =
    list_all (is_stored_in laid touched traces held) targets
passes_of laid task held answer (Op.Clear object) touched carried looked traces targets store =
    is_cleared_in laid touched object
passes_of laid task held answer (Op.Usable pointer place) touched carried looked traces targets store =
    are_copies_in touched traces pointer
passes_of laid task held answer (Op.Assume test) touched carried looked traces targets store =
    is_tested_in touched traces test
passes_of laid task held answer (Op.Lock mutex place) touched carried looked traces targets store =
    is_locked_in laid carried traces task mutex store
passes_of laid task held answer (Op.Unlock mutex place) touched carried looked traces targets store =
    is_unlocked_in carried traces.pending.items mutex
passes_of laid task held answer Op.Yield touched carried looked traces targets store = are_in carried traces.fresh
passes_of laid task held answer (Op.Probe to mutex place) touched carried looked traces targets store =
    is_probed_in laid carried answer task mutex store
passes_of laid task held answer operation touched carried looked traces targets store = true

-- an edge that reaches these targets over the store does so
abbrev pub passes : EdgeView → List ℕ → List ℕ → List ℕ → Traces → List ℕ → Interferences → Bool
passes view touched carried looked traces targets store =
    passes_of (laid_tree view.laid.now) view.task view.held view.answer view.operation touched carried looked traces
    targets store
