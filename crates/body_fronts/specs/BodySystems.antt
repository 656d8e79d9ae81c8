-- The equations of a body as a system whose states have a front and cells.
use Rattle.std.specs.Prelude.{ℕ, ℤ, List, [], ◌∷◌, Option, Some, None}
use Rattle.std.specs.FinMap.{get, empty as no_entry, insert}
use Rattle.sparse_bodies.specs.task_equations.table_covers.tm_lattice.Heights.{table_height}
use Rattle.sparse_bodies.specs.task_equations.table_covers.tm_lattice.Tables.{Table, rounded_among}
use Rattle.sparse_bodies.specs.task_equations.value_heights.pointer_dom.Values.{rounded_values}
use Rattle.sparse_bodies.specs.task_equations.value_heights.Heights.{value_height}
use Rattle.sparse_bodies.specs.task_equations.state_fits.cell_env.Cells.{rounded_cell, cell_height}
use Rattle.sparse_bodies.specs.task_equations.state_fits.cell_env.Temps.{temp_height}
use Rattle.sparse_bodies.specs.task_equations.state_fits.interfere_set.Stores.{Interferences}
use Rattle.sparse_bodies.specs.task_equations.state_fits.transfer_rows.StateForms.{Temp, Cell, State}
use Rattle.sparse_bodies.specs.task_equations.state_fits.Tops.{top_cell, top_state}
use Rattle.sparse_bodies.specs.task_equations.Bodies.{Body, node_at, live_at}
use Rattle.sparse_bodies.specs.task_equations.Equations.{cells_at, equations_of}
use Rattle.sparse_bodies.specs.sparse_tables.Sparse.{Placing}
use Rattle.sparse_bodies.specs.Carries.{carry_along}
use Rattle.front_constraints.specs.Systems.{SparseSystem, Numbers}
use Rattle.body_fronts.specs.FrontForms.{is_seen}

-- the table with what there is at these keys
abbrev pub with_entry : {V : Type 0} → Table V → ℕ → Option V → Table V
with_entry t k None = t
with_entry t k (Some v) = insert t k v

abbrev pub table_with : {V : Type 0} → (ℕ → Option V) → List ℕ → Table V
table_with f [] = no_entry
table_with f (k ∷ ks) = with_entry (table_with f ks) k (f k)

-- a cell as it is rounded at a node
abbrev pub rounded_where : List ℤ → Option (List ℕ) → ℕ → Cell → Cell
rounded_where marks None x c = c
rounded_where marks (Some keys) x c = rounded_among (rounded_cell (rounded_values marks)) keys x c

-- What code chooses for a body: where its cells are kept; the list of its cells, and those at which each edge may look
-- and that it touches; the numbers of variables and constraints; and a state, of which small states take what stands at
-- cells that do not count.
pub record Chosen : Type 0 where
  pub place : Placing
  pub cells : List ℕ
  pub looked : ℕ → List ℕ
  pub touched : ℕ → List ℕ
  pub numbers : Numbers
  pub scratch : State

-- the equations of a body that begins in this state, or not at all, over a store, with these choices
abbrev pub system_of : Body → Option State → Interferences → Chosen → SparseSystem State (Table Temp) Cell
system_of b entry store chosen = record {
  equations = equations_of b entry store;
  front = λ s. s.temps;
  cell = λ s x. get s.cells x;
  is_cell = is_seen b;
  state_of = λ f c. record { temps = f; cells = table_with c chosen.cells };
  scratch = λ x. (let s = chosen.scratch in get s.cells x);
  outward = λ n x c. rounded_where b.marks (cells_at b n) x c;
  carry = carry_along b store;
  front_height = table_height (temp_height value_height);
  front_limit = λ n. (let q = node_at b n in
      let t = top_state b.laid (live_at b q.place) in table_height (temp_height value_height) t.temps);
  cell_height = cell_height value_height;
  cell_limit = λ x. cell_height value_height (top_cell b.laid x);
  place = chosen.place;
  cells = chosen.cells;
  looked = chosen.looked;
  touched = chosen.touched;
  numbers = chosen.numbers;
}
