-- Entries in a small layout and ends of small graphs, with the values that one finds by hand.
use Rattle.std.specs.Prelude.{◌≡◌, refl, ℕ, pos, List, [], ◌∷◌, Option, Some, None, false, true}
use Rattle.std.specs.FinMap.{insert, empty as no_entry}
use Rattle.strided_dom.specs.Progression.{single}
use Rattle.tm_laid.specs.tm_cint.declared.int_types.IntType.TheVariants.{Int}
use Rattle.tm_laid.specs.tm_typed.declared.types.Scalar.TheVariants as Scalars
use Rattle.tm_laid.specs.tm_typed.Files.{TypedFileTree}
use Rattle.tm_laid.specs.declared.objects.LaidObject.{LaidObject}
use Rattle.tm_laid.specs.declared.objects.Initial.TheVariants as Initials
use Rattle.tm_laid.specs.declared.cells.LaidCell.{LaidCell}
use Rattle.tm_laid.specs.declared.cells.AbstractCell.{AbstractCell}
use Rattle.tm_laid.specs.Layouts.{LaidTree, no_object}
use Rattle.flow_graph.specs.declared.graphs.Edge.{Edge}
use Rattle.flow_graph.specs.declared.operations.Operation.TheVariants as Op
use Rattle.mutex_configs.specs.declared.nodes.ConfiguredNode.{ConfiguredNode}
use Rattle.pointer_dom.specs.PointerSets.{pointer_to}
use Rattle.pointer_dom.specs.Values.{Values, no_value, joined_values}
use Rattle.cell_env.specs.States.{joined_state}
use Rattle.body_systems.specs.edge_actions.transfer_rows.StateForms.{Cell, State, only_numbers, only_pointers}
use Rattle.body_systems.specs.edge_actions.Layouts.{open_value}
use Rattle.body_systems.specs.table_covers.Solutions.{at}
use Rattle.body_systems.specs.program_equations.Entries.{initial_of, first_state, later_state, ended_in}

abbrev object : Option ℕ → ℕ → ℕ → ℕ → LaidObject
object owner first cells told = record no_object {
  owner = owner;
  first_cell = first;
  cells = cells;
  first_abstract = told;
  abstract_cells = 1;
}

abbrev int_cell : ℕ → ℕ → LaidCell
int_cell object told = record { object = object; scalar = Scalars.Int Int; abstract_cell = told }

abbrev int_told : ℕ → AbstractCell
int_told object = record { object = object; offset = 0; scalar = Scalars.Int Int; smashed = false }

-- `int a[2] = {10, 14};` whose cells are smashed, `int *p = &a[1];`, and a local `int` of each of two bodies
abbrev small : TypedFileTree → LaidTree
small file = record {
  file = file;
  bodies = 0 ∷ 1 ∷ [];
  first_paths = 0 ∷ 1 ∷ [];
  paths = record { body = 0; function = 0; caller = None; paths = 1 } ∷ record { body = 1; function = 1; caller = None; paths = 1 } ∷ [];
  callees = [] ∷ [] ∷ [];
  first_objects = 2 ∷ 3 ∷ [];
  statics = 0 ∷ 1 ∷ [];
  objects = object None 0 2 0 ∷ object None 2 1 1 ∷ object (Some 0) 3 1 2 ∷ object (Some 1) 4 1 3 ∷ [];
  cells = int_cell 0 0 ∷ int_cell 0 0 ∷ record { object = 1; scalar = Scalars.Pointer 0; abstract_cell = 1 } ∷ int_cell 2 2 ∷ int_cell 3 3 ∷ [];
  abstract_cells =
      record (int_told 0) { smashed = true } ∷ record { object = 1; offset = 0; scalar = Scalars.Pointer 0; smashed = false }
      ∷ int_told 2 ∷ int_told 3 ∷ [];
  initial = Initials.Number (pos 10) ∷ Initials.Number (pos 14) ∷ Initials.To 0 1 ∷ [];
}

abbrev holds : Values → Cell
holds v = record { value = v; pending = 0; fresh = false; stored = false }

abbrev both_numbers : Values
both_numbers = joined_values (joined_values no_value (only_numbers (single (pos 10)))) (only_numbers (single (pos 14)))

-- the array has two cells
abbrev its_pointer : Values
its_pointer = joined_values no_value (only_pointers (pointer_to 0 2 1))

module _ (file : TypedFileTree) where
  elements : initial_of (small file) 0 ≡ both_numbers
  elements = refl

  local : initial_of (small file) 2 ≡ no_value
  local = refl

  -- each body has its own local, which may hold any number, and not that of the other
  first_body : first_state (small file) 0 ≡ record {
    temps = no_entry;
    cells = insert (insert (insert no_entry 0 (holds both_numbers)) 1 (holds its_pointer)) 2 (holds (open_value (Scalars.Int Int)));
  }
  first_body = refl

  second_body : first_state (small file) 1 ≡ record {
    temps = no_entry;
    cells = insert (insert (insert no_entry 0 (holds both_numbers)) 1 (holds its_pointer)) 3 (holds (open_value (Scalars.Int Int)));
  }
  second_body = refl

abbrev edge : ℕ → ℕ → Edge
edge from to = record { from = from; to = to; op = Op.Skip }

abbrev node : ℕ → ConfiguredNode
node place = record { place = place; held = 0; found = 0 }

abbrev three : List ConfiguredNode
three = node 0 ∷ node 1 ∷ node 2 ∷ []

module _ (s t u : State) where
  -- two edges lead to two ends, of which both are reached, or one
  two_ends : ended_in (edge 0 1 ∷ edge 0 2 ∷ []) three (at (Some s ∷ Some t ∷ Some u ∷ [])) ≡ Some (joined_state joined_values t u)
  two_ends = refl

  one_end : ended_in (edge 0 1 ∷ edge 0 2 ∷ []) three (at (Some s ∷ None ∷ Some u ∷ [])) ≡ Some u
  one_end = refl

  -- a loop ends nowhere
  no_end : ended_in (edge 0 1 ∷ edge 1 2 ∷ edge 2 0 ∷ []) three (at (Some s ∷ Some t ∷ Some u ∷ [])) ≡ None
  no_end = refl

  nothing_behind : (laid : LaidTree) → later_state laid 0 None ≡ None
  nothing_behind laid = refl
