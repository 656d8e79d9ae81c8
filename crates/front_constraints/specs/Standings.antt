-- What stands at a variable, front by front and cell by cell: its order, joins and heights.
use Rattle.std.specs.Prelude.{ℕ, ◌+◌, Option, Some, None, IfSome}
use Rattle.std.specs.Option.{option_map}
use Rattle.sparse_tables.specs.table_covers.tm_lattice.declared.lattices.Lattice as lattice
use Rattle.sparse_tables.specs.table_covers.tm_lattice.Tables.{IsBelow, joined_at}
use Rattle.front_constraints.specs.declared.standings.Standing.{Standing}

module _ {F D : Type 0} where
  -- a front stands there
  abbrev pub fronted : F → Standing F D
  fronted f = record { front = Some f; cell = None }

  -- something came there
  abbrev pub opened : Standing F D
  opened = record { front = None; cell = None }

  -- a cell stands there
  abbrev pub holding : D → Standing F D
  holding d = record { front = None; cell = Some d }

  -- the front that stands there, if any
  abbrev pub front_in : Option (Standing F D) → Option F
  front_in None = None
  front_in (Some w) = w.front

  -- what stands there at a cell, if anything
  abbrev pub cell_in : Option (Standing F D) → Option D
  cell_in None = None
  cell_in (Some w) = w.cell

  -- front and cell have these properties, where there are any
  pub record HasParts (IsFront : F → Type 0) (IsCell : D → Type 0) (w : Standing F D) : Type 0 where
    pub front : IfSome w.front IsFront
    pub cell : IfSome w.cell IsCell

  -- front and cell are below those of the other
  pub record IsStandingBelow (front_leq : F → F → Type 0) (cell_leq : D → D → Type 0) (v w : Standing F D) : Type 0
    where
      pub front : IsBelow front_leq v.front w.front
      pub cell : IsBelow cell_leq v.cell w.cell

  abbrev pub joined_standing : (F → F → F) → (D → D → D) → Standing F D → Standing F D → Standing F D
  joined_standing join_fronts join_cells v w = record {
    front = joined_at join_fronts v.front w.front;
    cell = joined_at join_cells v.cell w.cell;
  }

  -- front and cell changed, where there are any
  abbrev pub changed_standing : (F → F) → (D → D) → Standing F D → Standing F D
  changed_standing change_front change_cell w = record {
    front = option_map change_front w.front;
    cell = option_map change_cell w.cell;
  }

-- nothing is lowest, and each value one higher than it is by itself
abbrev pub height_in : {A : Type 0} → (A → ℕ) → Option A → ℕ
height_in height None = 0
height_in height (Some a) = height a + 1

module _ {F D M N : Type 0} (fronts : lattice.Ghosts F M) (cells : lattice.Ghosts D N) where
  -- fronts and cells side by side
  abbrev pub standings : lattice.Ghosts (Standing F D) (M × N)
  standings = record {
    is_value = HasParts fronts.is_value cells.is_value;
    is_marks = λ marks. fronts.is_marks marks.0 × cells.is_marks marks.1;
    leq = IsStandingBelow fronts.leq cells.leq;
    joined = joined_standing fronts.joined cells.joined;
    rounded = λ marks. changed_standing (fronts.rounded marks.0) (cells.rounded marks.1);
    nothing = λ w. ⊥;
  }
