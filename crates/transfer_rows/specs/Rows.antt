-- The state after each operation, or none where control does not go on.
use Rattle.std.specs.Prelude.{ℕ, ◌-◌, ◌^◌, Bool, true, false, ◌&&◌, ◌||◌, not, cond, eqb, bit_and, bit_or, pos}
use Rattle.std.specs.Prelude.{List, [], ◌∷◌, Option, Some, None}
use Rattle.std.specs.Int.{bit_at}
use Rattle.std.specs.FinMap.{get, insert, retain_keys}
use Rattle.std.specs.Option.{option_map}
use Rattle.interfere_set.specs.strided_dom.Progression.{single}
use Rattle.cell_env.specs.tm_lattice.Tables.{Table, changed_table}
use Rattle.interfere_set.specs.pointer_dom.Values.{Values, joined_values, no_value}
use Rattle.interfere_set.specs.Stores.{Interferences, joined_all, visible, handed}
use Rattle.operator_values.specs.MetValues.{met_values}
use Rattle.transfer_rows.specs.StateForms.{Temp, Cell, State, is_no_value, only_numbers, value_of, own_of}
use Rattle.transfer_rows.specs.Actions.{Around, Side, temporary, fixed, Filter, usable, numbers_compare}
use Rattle.transfer_rows.specs.Actions.{pointers_compare, Action, skips, gives, refines, loads, loads_any, stores}
use Rattle.transfer_rows.specs.Actions.{clears, locks, unlocks, yields, probes}
use Rattle.transfer_rows.specs.Calculations.{calculated, usable_values, side_value, left_numbers, right_numbers}
use Rattle.transfer_rows.specs.Calculations.{left_addresses, right_addresses}
use Rattle.transfer_rows.specs.Accesses.{is_among, targets_at, single_of}

-- the state with a temporary given, which ends the copy that it was; none where nothing is given
abbrev pub given : State → ℕ → Values → Option ℕ → Option State
given s target value copy = cond (is_no_value value) None
    (Some (record s { temps = insert s.temps target record { value = value; copy = copy } }))

-- no longer fresh
abbrev pub aged : Cell → Cell
aged c = record c { fresh = false }

-- a set of mutexes without one; 65535 is the set of all sixteen
abbrev pub without : ℕ → ℕ → ℕ
without held m = bit_and held (65535 - 2 ^ m)

abbrev pub released : ℕ → Cell → Cell
released m c = record c { pending = without c.pending m }

abbrev pub after_unlock : State → ℕ → State
after_unlock s m = record s { cells = changed_table (λ x c. released m c) s.cells }

abbrev pub after_yield : State → State
after_yield s = record s { cells = changed_table (λ x c. aged c) s.cells }

-- copies of cells that pass the test end
abbrev pub kept_copy : (ℕ → Bool) → Option ℕ → Option ℕ
kept_copy test None = None
kept_copy test (Some x) = cond (test x) None (Some x)

abbrev pub dropped : (ℕ → Bool) → Table Temp → Table Temp
dropped test temps = changed_table (λ t entry. record entry { copy = kept_copy test entry.copy }) temps

-- A store with a single target: the cell becomes the value and is fresh. In a shared cell the mutexes held are pending;
-- a local cell is stored.
abbrev pub overwriting : Bool → ℕ → Values → Cell → Cell
overwriting shared held v c = record {
  value = v;
  pending = cond shared held c.pending;
  fresh = true;
  stored = cond shared c.stored true;
}

-- a store with several targets: each one is joined with the value, and the mutexes held become pending in a shared one
abbrev pub joining : Bool → ℕ → Values → Cell → Cell
joining shared held v c = record {
  value = joined_values c.value v;
  pending = cond shared (bit_or c.pending held) c.pending;
  fresh = c.fresh;
  stored = c.stored;
}

-- a copy is made of a cell that is shared or stored, for each read of an open cell may differ
abbrev pub is_stored : Option Cell → Bool
is_stored None = true
is_stored (Some c) = c.stored

-- the cells of an object become open
abbrev pub cleared_to : Option Values → Cell → Cell
cleared_to None c = c
cleared_to (Some v) c = record c { value = v; stored = false }

abbrev pub is_cleared : Option Values → Bool
is_cleared None = false
is_cleared (Some v) = true

abbrev pub after_clear : State → (ℕ → Option Values) → State
after_clear s cleared = record {
  temps = dropped (λ x. is_cleared (cleared x)) s.temps;
  cells = changed_table (λ x. cleared_to (cleared x)) s.cells;
}

-- an own value met with what is left of a copy of the cell
abbrev pub met_where : Option ℕ → Values → ℕ → Cell → Cell
met_where None v x c = c
met_where (Some y) v x c = cond (eqb x y) (record c { value = met_values c.value v }) c

-- a refined temporary keeps its copy, and the cell of which it is one is refined with it
abbrev pub refined : State → ℕ → Values → Option ℕ → State
refined s t v copy = record {
  temps = insert s.temps t record { value = v; copy = copy };
  cells = changed_table (met_where copy v) s.cells;
}

module _ (around : Around) where
  -- what a load finds in a cell: the own value, and in a shared cell what the reader sees there
  abbrev pub found_in : Interferences → ℕ → Option Cell → Values
  found_in store x None = no_value
  found_in store x (Some c) =
      joined_values c.value (cond (around.is_shared x) (visible around.reader c.fresh x store) no_value)

  abbrev pub loaded : State → Interferences → List ℕ → Values
  loaded s store xs = joined_all (λ x. found_in store x (get s.cells x)) xs

  abbrev pub new_copy : State → Option ℕ → Option ℕ
  new_copy s None = None
  new_copy s (Some x) = cond (around.is_shared x || is_stored (get s.cells x)) (Some x) None

  abbrev pub after_load : State → Interferences → ℕ → List ℕ → Option State
  after_load s store target xs = given s target (loaded s store xs) (new_copy s (single_of around.is_smashed xs))

  -- a load of a volatile object gives any value of its type, where it has a target
  abbrev pub after_load_any : State → ℕ → List ℕ → Values → Option State
  after_load_any s target [] range = None
  after_load_any s target (x ∷ xs) range = given s target range None

  abbrev pub overwritten : Values → ℕ → ℕ → Cell → Cell
  overwritten v x y c = cond (eqb y x) (overwriting (around.is_shared y) around.reader.held v c) c

  abbrev pub written : Values → List ℕ → ℕ → Cell → Cell
  written v xs y c = cond (is_among xs y) (joining (around.is_shared y) around.reader.held v c) c

  abbrev pub stored_cell : Values → List ℕ → Option ℕ → ℕ → Cell → Cell
  stored_cell v xs None = written v xs
  stored_cell v xs (Some x) = overwritten v x

  -- copies of targets end
  abbrev pub after_store : State → Values → List ℕ → Option State
  after_store s v [] = None
  after_store s v (x ∷ xs) = Some record {
    temps = dropped (is_among (x ∷ xs)) s.temps;
    cells = changed_table (stored_cell v (x ∷ xs) (single_of around.is_smashed (x ∷ xs))) s.cells;
  }

  -- a shared cell joined with what the others left in it under the mutex
  abbrev pub taken : Interferences → ℕ → ℕ → Cell → Cell
  taken store m x c = record c {
    value = joined_values c.value (cond (around.is_shared x) (handed around.reader.task m x store) no_value);
  }

  abbrev pub after_lock : State → Interferences → ℕ → State
  after_lock s store m = record {
    temps = dropped (λ x. true) s.temps;
    cells = changed_table (λ x c. aged (taken store m x c)) s.cells;
  }

  -- a mutex that is found free: what the others left under it is there, and copies end; fresh cells stay so
  abbrev pub after_free : State → Interferences → ℕ → ℕ → State
  after_free s store m target = record {
    temps = insert (dropped (λ x. true) s.temps) target record { value = only_numbers (single (pos 0)); copy = None };
    cells = changed_table (taken store m) s.cells;
  }

  -- a local cell of which a temporary is a copy has no own value left
  abbrev pub is_contradicted : State → Option ℕ → Bool
  is_contradicted s None = false
  is_contradicted s (Some x) = not (around.is_shared x) && is_no_value (own_of s x)

  -- none where nothing is left of the value, or of a local cell
  abbrev pub refined_from : State → ℕ → Values → Option Temp → Option State
  refined_from s t v None = None
  refined_from s t v (Some before) =
      cond (is_no_value v || is_contradicted (refined s t v before.copy) before.copy) None
      (Some (refined s t v before.copy))

  abbrev pub after_refined : State → ℕ → Values → Option State
  after_refined s t v = refined_from s t v (get s.temps t)

  abbrev pub side_refined : Side → Values → State → Option State
  side_refined (temporary t) v s = after_refined s t v
  side_refined (fixed value) v s = cond (is_no_value v) None (Some s)

  abbrev pub then_refined : Side → Values → Option State → Option State
  then_refined side v None = None
  then_refined side v (Some s) = side_refined side v s

  -- Both sides are refined by what they were before, the left one first.
  abbrev pub after_filter : State → Filter → Option State
  after_filter s (usable source) = after_refined s source (usable_values (value_of s source))
  after_filter s (numbers_compare op left right) =
      then_refined right (right_numbers op (side_value left s) (side_value right s))
      (side_refined left (left_numbers op (side_value left s) (side_value right s)) s)
  after_filter s (pointers_compare equal left right) =
      then_refined right (right_addresses equal (side_value left s) (side_value right s))
      (side_refined left (left_addresses equal (side_value left s) (side_value right s)) s)

  -- the task holds the mutex at the node that the edge leaves
  abbrev pub holds : ℕ → Bool
  holds m = eqb (bit_at around.reader.held m) 1

  -- The state to which an operation leads. The copies of a Lock, an Unlock or a Probe that lead nowhere give none.
  unfoldable pub effect : Action → State → Interferences → Option State
  effect skips s store = Some s
  effect (gives target calculation) s store = given s target (calculated calculation s) None
  effect (refines filter) s store = after_filter s filter
  effect (loads spots target address) s store =
      after_load s store target (targets_at spots (value_of s address).pointers)
  effect (loads_any spots target address range) s store =
      after_load_any s target (targets_at spots (value_of s address).pointers) range
  effect (stores spots address source) s store =
      after_store s (value_of s source) (targets_at spots (value_of s address).pointers)
  effect (clears cleared) s store = Some (after_clear s cleared)
  effect (locks m) s store = cond (holds m) None (Some (after_lock s store m))
  effect (unlocks m) s store = cond (holds m) (Some (after_unlock s m)) None
  effect yields s store = Some (after_yield s)
  effect (probes m target true) s store = given s target (only_numbers (single (pos 1))) None
  effect (probes m target false) s store = cond (holds m) None (Some (after_free s store m target))

  -- temporaries that are not live where the edge leads are left out
  abbrev pub arrived : State → State
  arrived s = record s { temps = retain_keys s.temps around.is_live }

  abbrev pub after : Action → State → Interferences → Option State
  after action s store = option_map arrived (effect action s store)
