-- The fronts of a body's nodes and what stands at its cells, each by itself: their order, joins and rounding, and what
-- fits.
use Rattle.std.specs.Prelude.{ℕ, ◌&&◌, ltb, Bool, ℤ, List, length}
use Rattle.std.specs.FinMap.{get}
use Rattle.sparse_bodies.specs.task_equations.table_covers.tm_lattice.declared.lattices.Lattice as lattice
use Rattle.sparse_bodies.specs.task_equations.table_covers.tm_lattice.Tables.{Table, IsTable, IsTableBelow}
use Rattle.sparse_bodies.specs.task_equations.table_covers.tm_lattice.Tables.{joined_table}
use Rattle.sparse_bodies.specs.task_equations.temporary_types.tm_laid.Layouts.{abstract_at}
use Rattle.sparse_bodies.specs.task_equations.value_heights.pointer_dom.Values.{joined_values, rounded_values}
use Rattle.sparse_bodies.specs.task_equations.state_fits.cell_env.Cells.{joined_cell, rounded_cell}
use Rattle.sparse_bodies.specs.task_equations.state_fits.cell_env.Temps.{joined_temp}
use Rattle.sparse_bodies.specs.task_equations.state_fits.transfer_rows.StateForms.{Temp, Cell, IsTempForm, IsCellForm}
use Rattle.sparse_bodies.specs.task_equations.state_fits.transfer_rows.StateForms.{IsTempUnder, IsCellUnder}
use Rattle.sparse_bodies.specs.task_equations.state_fits.edge_actions.Layouts.{is_reachable}
use Rattle.sparse_bodies.specs.task_equations.temporary_extents.Extents.{extents_in}
use Rattle.sparse_bodies.specs.task_equations.state_fits.Fits.{FitsTemp, FitsCopy, IsCellOf}
use Rattle.sparse_bodies.specs.task_equations.state_fits.Kinds.{InExtents}
use Rattle.sparse_bodies.specs.task_equations.Bodies.{Body, node_at, live_at}

-- tables of temporaries with their order and joins; they are not rounded
abbrev pub fronts : lattice.Ghosts (Table Temp) (List ℤ)
fronts = record {
  is_value = IsTable IsTempForm (λ t. ⊥);
  is_marks = λ m. Unit {0};
  leq = IsTableBelow IsTempUnder;
  joined = joined_table (joined_temp joined_values);
  rounded = λ marks t. t;
  nothing = λ t. ⊥;
}

-- what states say of one cell, with order, joins and rounding
abbrev pub cells : lattice.Ghosts Cell (List ℤ)
cells = record {
  is_value = IsCellForm;
  is_marks = λ m. Unit {0};
  leq = IsCellUnder;
  joined = joined_cell joined_values;
  rounded = λ marks. rounded_cell (rounded_values marks);
  nothing = λ c. ⊥;
}

module _ (b : Body) where
  -- The front fits a node: each temporary that is live at its place has a value within its extent, no other has any,
  -- and copies are of cells that the body sees.
  pub record FitsFront (n : ℕ) (f : Table Temp) : Type 0 where
    pub form : IsTable IsTempForm (λ t. ⊥) f
    pub temps : (t : ℕ) → (let q = node_at b n in
        FitsTemp (InExtents b.laid (extents_in b.edges)) (live_at b q.place) t (get f t))
    pub copies : (t : ℕ) → FitsCopy b.laid b.task (get f t)

  -- what is said of a cell is of its type
  pub record FitsCellAt (x : ℕ) (c : Cell) : Type 0 where
    pub form : IsCellForm c
    pub of : IsCellOf b.laid x c

  -- the abstract cell is static or the body's own
  abbrev pub is_seen : ℕ → Bool
  is_seen x = (let a = abstract_at b.laid x in ltb x (length b.laid.abstract_cells)
      && is_reachable b.laid b.task a.object)
