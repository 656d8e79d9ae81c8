-- The definitions tried on `int a[2] = {1, 2}; int x; int main(void) { x = 5; return 0; }` with one task: what the
-- array and `x` hold before anything has run, where the initial section ends, and where the task begins then.
use Rattle.std.specs.Prelude.{◌≡◌, ℕ, zero, suc, true, false, pos, List, [], ◌∷◌, Some, None, refl}
use Rattle.std.proofs.Common.{ap, ◌∙◌}
use Rattle.std.specs.FinMap as map
use Rattle.std.specs.FinMap.{insert}
use Rattle.edge_filters.specs.strided_dom.Progression.{single, Has}
use Rattle.region_cells.specs.tm_lattice.laws.TableLaws.{get-insert_here}
use Rattle.region_cells.specs.tm_cint.declared.int_types.IntType.TheVariants.{Int}
use Rattle.region_cells.specs.tm_terms.declared.places.Place.{Place}
use Rattle.region_cells.specs.tm_typed.declared.types.Scalar.TheVariants as Scalars
use Rattle.region_cells.specs.tm_typed.Files.{TypedFileTree}
use Rattle.region_cells.specs.tm_laid.declared.objects.Initial.TheVariants as Initials
use Rattle.region_cells.specs.tm_laid.declared.objects.LaidObject.{LaidObject}
use Rattle.region_cells.specs.tm_laid.Layouts.{LaidTree}
use Rattle.region_cells.specs.flow_graph.declared.operations.Into.TheVariants as Into
use Rattle.region_cells.specs.flow_graph.declared.operations.Operation.TheVariants as Op
use Rattle.region_cells.specs.flow_graph.Graphs.{Edges}
use Rattle.task_equations.specs.mutex_configs.declared.nodes.ConfiguredNode.{ConfiguredNode}
use Rattle.task_equations.specs.mutex_configs.Nodes.{entry_node}
use Rattle.edge_filters.specs.pointer_dom.Values.{Values, joined_values, no_value}
use Rattle.edge_filters.specs.pointer_dom.laws.OffsetLaws.{hull_left, hull_right}
use Rattle.edge_filters.specs.transfer_rows.StateForms.{Cell, State, only_numbers, own_value, own_of}
use Rattle.task_equations.specs.table_covers.Solutions.{NodeTable}
use Rattle.program_equations.specs.Entries.{initial_of, entry_cell, entry_state, is_end, ended_in, later_state}

abbrev place : Place
place = record { line = 1; col = 1 }

abbrev object : ℕ → ℕ → ℕ → LaidObject
object first_cell cells first_abstract = record {
  name = record { start = 0; length = 0 };
  place = place;
  of = record { number = 0; constant = false; volatile = false };
  owner = None;
  first_cell = first_cell;
  cells = cells;
  first_abstract = first_abstract;
  abstract_cells = 1;
}

-- the array has two cells, for which one abstract cell stands
abbrev layout : TypedFileTree → LaidTree
layout file = record {
  file = file;
  bodies = 0 ∷ 1 ∷ [];
  first_paths = 0 ∷ 1 ∷ [];
  paths = record { body = 0; function = 0; caller = None; paths = 1 }
      ∷ record { body = 1; function = 1; caller = None; paths = 1 } ∷ [];
  callees = [] ∷ [] ∷ [];
  first_objects = 2 ∷ 2 ∷ [];
  statics = 0 ∷ 1 ∷ [];
  objects = object 0 2 0 ∷ object 2 1 1 ∷ [];
  cells = record { object = 0; scalar = Scalars.Int Int; abstract_cell = 0 }
      ∷ record { object = 0; scalar = Scalars.Int Int; abstract_cell = 0 }
      ∷ record { object = 1; scalar = Scalars.Int Int; abstract_cell = 1 } ∷ [];
  abstract_cells = record { object = 0; offset = 0; scalar = Scalars.Int Int; smashed = true }
      ∷ record { object = 1; offset = 0; scalar = Scalars.Int Int; smashed = false } ∷ [];
  initial = Initials.Number (pos 1) ∷ Initials.Number (pos 2) ∷ Initials.Number (pos 0) ∷ [];
}

abbrev number : ℕ → Values
number n = only_numbers (single (pos n))

-- one edge, from place 0 to place 1
abbrev edges : Edges
edges = record { from = 0; to = 1; op = Op.Store 0 1 (Scalars.Int Int) (Into.Object 1) place } ∷ []

abbrev nodes : List ConfiguredNode
nodes = entry_node ∷ record { place = 1; held = 0; found = 0 } ∷ []

abbrev stored : Cell
stored = record { value = number 5; pending = 0; fresh = false; stored = true }

-- behind the edge `x` is 5
abbrev last : State
last = record { temps = map.empty; cells = insert map.empty 1 stored }

abbrev table : NodeTable State
table zero = None
table (suc n) = Some last

module _ (file : TypedFileTree) where
  -- ## Before anything has run

  array_holds : initial_of (layout file) 0 ≡ joined_values (joined_values no_value (number 1)) (number 2)
  array_holds = refl

  x_holds : initial_of (layout file) 1 ≡ joined_values no_value (number 0)
  x_holds = refl

  -- both numbers may stand in the array
  one_there : (let v = initial_of (layout file) 0 in Has v.numbers (pos 1))
  unfolding Has
  one_there =
      let first = joined_values no_value (number 1) in
      let two = number 2 in
      let v = number 1 in
      let nothing = no_value in
      (hull_left first.numbers two.numbers).within (pos 1) ((hull_right nothing.numbers v.numbers).within (pos 1) refl)

  two_there : (let v = initial_of (layout file) 0 in Has v.numbers (pos 2))
  unfolding Has
  two_there =
      let first = joined_values no_value (number 1) in
      let two = number 2 in
      (hull_right first.numbers two.numbers).within (pos 2) refl

  -- ## The initial section

  goes_on : is_end edges nodes 0 ≡ false
  goes_on = refl

  ends : is_end edges nodes 1 ≡ true
  ends = refl

  ended : ended_in edges nodes table ≡ Some last
  ended = refl

  -- ## After it

  begins : later_state (layout file) 0 (ended_in edges nodes table) ≡ Some (entry_state (layout file) 0 (own_of last))
  begins = refl

  last_is : own_of last 1 ≡ number 5
  last_is = ap own_value (get-insert_here map.empty 1 stored 1 refl)

  -- the task begins where `x` is 5
  begins_at_five : own_of (entry_state (layout file) 0 (own_of last)) 1 ≡ number 5
  begins_at_five =
      ap own_value (get-insert_here (insert map.empty 0 (entry_cell (layout file) (own_of last) 0)) 1
      (entry_cell (layout file) (own_of last) 1) 1 refl) ∙ last_is
