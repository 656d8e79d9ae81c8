-- The greatest values and states of a program.
use Rattle.std.specs.Prelude.{ℕ, zero, suc, ◌-◌, ◌^◌, true, false, pos, neg_ℤ, List, [], ◌∷◌, length, None}
use Rattle.std.specs.FinMap.{empty as no_entry, insert}
use Rattle.value_heights.specs.tm_lattice.Tables.{Table}
use Rattle.temporary_types.specs.tm_laid.Layouts.{LaidTree, object_at}
use Rattle.value_heights.specs.pointer_dom.OffsetSets.{OffsetSet}
use Rattle.value_heights.specs.pointer_dom.PointerSets.{Pointers}
use Rattle.value_heights.specs.pointer_dom.Values.{Values}
use Rattle.edge_actions.specs.transfer_rows.StateForms.{Temp, Cell, State}
use Rattle.edge_actions.specs.Layouts.{numbers_between}

-- ## Greatest values

-- the numbers below this one, the greatest first
abbrev pub below : ℕ → List ℕ
below zero = []
below (suc n) = n ∷ below n

-- the table with an entry at each of these keys
abbrev pub table_over : {V : Type 0} → (ℕ → V) → List ℕ → Table V
table_over f [] = no_entry
table_over f (k ∷ ks) = insert (table_over f ks) k (f k)

-- all offsets of an object
abbrev pub all_offsets : LaidTree → ℕ → OffsetSet
all_offsets laid object = let o = object_at laid object in record {
  size = o.cells;
  offsets = numbers_between (pos 0) (pos o.cells);
}

-- all pointers of a program
abbrev pub all_pointers : LaidTree → Pointers
all_pointers laid = record {
  null = true;
  invalid = true;
  objects = table_over (all_offsets laid) (below (length laid.objects));
}

-- all numbers of the integer types, and all pointers
abbrev pub all_values : LaidTree → Values
all_values laid = record {
  numbers = numbers_between (neg_ℤ (pos (2 ^ 63))) (pos (2 ^ 64 - 1));
  pointers = all_pointers laid;
}

-- ## Greatest states

abbrev pub top_temp : LaidTree → ℕ → Temp
top_temp laid t = record { value = all_values laid; copy = None }

-- 65535 is the set of all sixteen mutexes
abbrev pub top_cell : LaidTree → ℕ → Cell
top_cell laid x = record { value = all_values laid; pending = 65535; fresh = false; stored = false }

-- a state above all that fit a place where these temporaries are live
abbrev pub top_state : LaidTree → List ℕ → State
top_state laid live = record {
  temps = table_over (top_temp laid) live;
  cells = table_over (top_cell laid) (below (length laid.abstract_cells));
}
