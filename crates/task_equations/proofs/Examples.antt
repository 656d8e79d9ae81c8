-- The equations of a body with two nodes and one store, and what they bring for a state at its entry.
use Rattle.std.specs.Prelude.{◌≡◌, ◌≢◌, ℕ, true, false, cond, pos, List, [], ◌∷◌, Option, Some, None, refl}
use Rattle.std.proofs.Common.{sym, ap, subst, ◌∙◌, arith}
use Rattle.std.specs.FinMap as map
use Rattle.std.specs.FinMap.{get, insert}
use Rattle.std.specs.Option.{option_map}
use Rattle.mutex_configs.specs.strided_dom.Progression.{single}
use Rattle.table_covers.specs.tm_lattice.Tables.{changed_table}
use Rattle.table_covers.specs.tm_lattice.laws.TableLaws.{get-insert_here, get-insert_there}
use Rattle.table_covers.specs.tm_lattice.laws.SelectedLaws.{changed_at, get-changed_table}
use Rattle.mutex_configs.specs.tm_cint.declared.int_types.IntType.TheVariants.{Int}
use Rattle.mutex_configs.specs.tm_terms.declared.places.Place.{Place}
use Rattle.mutex_configs.specs.tm_typed.declared.types.Scalar.TheVariants as Scalars
use Rattle.mutex_configs.specs.tm_typed.Files.{TypedFileTree}
use Rattle.mutex_configs.specs.tm_laid.declared.objects.LaidObject.{LaidObject}
use Rattle.mutex_configs.specs.tm_laid.Layouts.{LaidTree}
use Rattle.mutex_configs.specs.flow_graph.declared.operations.Into.TheVariants as Into
use Rattle.mutex_configs.specs.flow_graph.declared.operations.Operation.TheVariants as Op
use Rattle.mutex_configs.specs.declared.nodes.EdgeCopy.{EdgeCopy}
use Rattle.mutex_configs.specs.Sets.{is_probe, leads_nowhere, held_after, found_after}
use Rattle.mutex_configs.specs.Nodes.{entry_node, all_copies}
use Rattle.state_fits.specs.pointer_dom.PointerSets.{Pointers, pointer_to, offsets_or_none}
use Rattle.state_fits.specs.pointer_dom.Values.{Values}
use Rattle.state_fits.specs.interfere_set.Stores.{Interferences}
use Rattle.state_fits.specs.transfer_rows.StateForms.{Temp, Cell, State, only_numbers, only_pointers, temp_value}
use Rattle.state_fits.specs.transfer_rows.StateForms.{value_of}
use Rattle.state_fits.specs.transfer_rows.Actions.{Around, Spot}
use Rattle.state_fits.specs.transfer_rows.Accesses.{has_number, targets_at}
use Rattle.state_fits.specs.transfer_rows.Rows.{effect, after_store, arrived, stored_cell}
use Rattle.state_fits.specs.edge_actions.Layouts.{spots_of}
use Rattle.task_equations.specs.Bodies.{Body}
use Rattle.task_equations.specs.Equations.{around_along, equations_of}

abbrev place : Place
place = record { line = 1; col = 1 }

abbrev x : LaidObject
x = record {
  name = record { start = 0; length = 0 };
  place = place;
  of = record { number = 0; constant = false; volatile = false };
  owner = None;
  first_cell = 0;
  cells = 1;
  first_abstract = 0;
  abstract_cells = 1;
}

-- `int x;` and one task
abbrev layout : TypedFileTree → LaidTree
layout file = record {
  file = file;
  bodies = 0 ∷ [];
  first_paths = 0 ∷ [];
  paths = record { body = 0; function = 0; caller = None; paths = 1 } ∷ [];
  callees = [] ∷ [];
  first_objects = 1 ∷ [];
  statics = 0 ∷ [];
  objects = x ∷ [];
  cells = record { object = 0; scalar = Scalars.Int Int; abstract_cell = 0 } ∷ [];
  abstract_cells = record { object = 0; offset = 0; scalar = Scalars.Int Int; smashed = false } ∷ [];
  initial = [];
}

abbrev copy : EdgeCopy
copy = record { edge = 0; from = 0; answer = true; to = Some 1 }

-- one edge, from node 0 to node 1: the value of temporary 1 is stored where temporary 0 points
abbrev body : TypedFileTree → Body
body file = record {
  laid = layout file;
  task = 0;
  priorities = 1 ∷ [];
  edges = record { from = 0; to = 1; op = Op.Store 0 1 (Scalars.Int Int) (Into.Object 0) place } ∷ [];
  nodes = entry_node ∷ record { place = 1; held = 0; found = 0 } ∷ [];
  copies = copy ∷ [];
  marks = pos 0 ∷ [];
  live = (0 ∷ 1 ∷ []) ∷ [] ∷ [];
  pointers = 0 ∷ [];
  heads = [];
  written = [];
}

abbrev five : Values
five = only_numbers (single (pos 5))

abbrev address : Temp
address = record { value = only_pointers (pointer_to 0 1 0); copy = None }

abbrev source : Temp
source = record { value = five; copy = None }

abbrev unwritten : Cell
unwritten = record { value = only_numbers (single (pos 0)); pending = 0; fresh = false; stored = false }

-- temporary 0 points to `x`, temporary 1 is 5, and `x` is 0
abbrev start : State
start = record {
  temps = insert (insert map.empty 0 address) 1 source;
  cells = insert map.empty 0 unwritten;
}

abbrev spots : List Spot
spots = record { object = 0; offset = 0; cell = 0 } ∷ []

module _ (file : TypedFileTree) (store : Interferences) (entry : Option State) where
  abbrev around : Around
  around = around_along (body file) copy

  -- the configured graph has one copy, and the equations one link
  copies_are : (let b = body file in all_copies b.nodes 0 b.edges ≡ b.copies)
  unfolding is_probe leads_nowhere held_after found_after
  copies_are = refl

  links_are : (let sys = equations_of (body file) entry store in sys.links ≡ record { from = 0; to = 1 } ∷ [])
  links_are = refl

  two_nodes : (let sys = equations_of (body file) entry store in sys.node_count ≡ 2)
  two_nodes = refl

  no_head : (n : ℕ) → (let sys = equations_of (body file) entry store in sys.heads n ≡ false)
  no_head n = refl

  not_rounded : (n : ℕ) (s : State) → (let sys = equations_of (body file) entry store in sys.outward n s ≡ s)
  not_rounded n s = refl

  -- the link brings what the row of a store says, with the one spot of an `int`
  brings : (s : State) → (let sys = equations_of (body file) entry store in sys.after 0 s
      ≡ option_map (arrived around) (after_store around s (value_of s 1) (targets_at spots (value_of s 0).pointers)))
  unfolding effect spots_of
  brings s = refl

  -- ## From the start

  points : value_of start 0 ≡ only_pointers (pointer_to 0 1 0)
  points = ap temp_value (get-insert_there (insert map.empty 0 address) 1 source 0
      (let differ : 0 ≢ 1 = omega (arith) in differ)
      ∙ get-insert_here map.empty 0 address 0 refl)

  is_five : value_of start 1 ≡ five
  is_five = ap temp_value (get-insert_here (insert map.empty 0 address) 1 source 1 refl)

  one_target : targets_at spots (pointer_to 0 1 0) ≡ 0 ∷ []
  one_target = ap (λ o. cond (has_number (offsets_or_none o).offsets (pos 0)) (0 ∷ []) [])
      (get-insert_here map.empty 0 record { size = 1; offsets = single (pos 0) } 0 refl)

  abbrev change : ℕ → Cell → Cell
  change = stored_cell around five (0 ∷ []) (Some 0)

  abbrev next : Values → List ℕ → Option State
  next v xs = option_map (arrived around) (after_store around start v xs)

  -- one state comes to node 1, in which the cell of `x` is changed
  comes : (let sys = equations_of (body file) entry store in sys.after 0 start ≡ next five (0 ∷ []))
  comes = brings start
      ∙ ap (λ (p : Values). next (value_of start 1) (targets_at spots p.pointers)) points
      ∙ ap (λ xs. next (value_of start 1) xs) one_target
      ∙ ap (λ v. next v (0 ∷ [])) is_five

  cells_of : (t : State) → next five (0 ∷ []) ≡ Some t → t.cells ≡ changed_table change start.cells
  cells_of t e =
      let same : option_map (λ (s : State). s.cells) (next five (0 ∷ [])) ≡ Some t.cells
      = ap (option_map (λ (s : State). s.cells)) e in
      let cells : Some (changed_table change start.cells) ≡ Some t.cells = same in
      cc

  -- `x` is 5, fresh, and nothing is pending
  written : (t : State) → (let sys = equations_of (body file) entry store in sys.after 0 start ≡ Some t)
      → get t.cells 0 ≡ Some record { value = five; pending = 0; fresh = true; stored = false }
  written t e = ap (λ cells. get cells 0) (cells_of t (sym comes ∙ e))
      ∙ get-changed_table change start.cells 0
      ∙ ap (changed_at change 0) (get-insert_here map.empty 0 unwritten 0 refl)
