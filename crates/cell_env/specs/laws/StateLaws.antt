-- States are a lattice, part by part, for every lattice of values.
use Rattle.std.specs.Prelude.{◌≡◌, ℕ, ◌≤◌, List, refl}
use Rattle.std.proofs.Common.{arith}
use Rattle.tm_lattice.specs.Heights.{IsHeight, table_height}
use Rattle.tm_lattice.specs.LatticeLaws.{IsOrder, IsJoin, IsClosure, IsLeastNothing}
use Rattle.tm_lattice.specs.Tables.{IsTable, IsTableBelow, joined_table, rounded_table, selected_table}
use Rattle.tm_lattice.specs.laws.SelectedLaws.{selected_closure}
use Rattle.tm_lattice.specs.laws.TableHeights.{table_heights}
use Rattle.tm_lattice.specs.laws.TableLaws.{table_order, table_join, table_closure}
use Rattle.cell_env.specs.declared.cells.CellState.{CellState}
use Rattle.cell_env.specs.declared.temps.TempState.{TempState}
use Rattle.cell_env.specs.Cells.{IsCell, IsCellBelow, joined_cell, rounded_cell, cell_height}
use Rattle.cell_env.specs.Temps.{IsTemp, IsTempBelow, joined_temp, temp_height}
use Rattle.cell_env.specs.States.{TaskState, IsState, IsStateBelow, joined_state, rounded_state, rounded_state_at}
use Rattle.cell_env.specs.States.{state_height}
use Rattle.cell_env.specs.laws.CellLaws.{cell_order, cell_join, cell_closure, cell_nothing, cell_heights}
use Rattle.cell_env.specs.laws.TempLaws.{temp_order, temp_join, temp_closure, temp_nothing, temp_heights}

module _ {V N M : Type 0} (is_value : V → Type 0) (is_marks : M → Type 0) (leq : V → V → Type 0) (joined : V → V → V)
    (rounded : M → V → V) (order : IsOrder is_value leq) (join : IsJoin is_value leq joined)
    (closure : IsClosure is_value is_marks leq rounded) where
  abbrev Is : TaskState V N → Type 0
  Is s = IsState is_value s

  abbrev Below : TaskState V N → TaskState V N → Type 0
  Below s t = IsStateBelow leq s t

  abbrev Temp : TempState V N → Type 0
  Temp t = IsTemp is_value t

  abbrev Cell : CellState V N → Type 0
  Cell c = IsCell is_value c

  abbrev temps : IsOrder (IsTable Temp (λ t. ⊥)) (IsTableBelow (IsTempBelow leq))
  temps =
      table_order Temp is_marks (IsTempBelow leq) (joined_temp joined) (λ marks t. t) (λ t. ⊥)
      (temp_order is_value leq order) (temp_join is_value leq joined join)
      (temp_closure is_value is_marks leq order) (temp_nothing is_value is_marks leq order)

  abbrev cells : IsOrder (IsTable Cell (λ c. ⊥)) (IsTableBelow (IsCellBelow leq))
  cells =
      table_order Cell is_marks (IsCellBelow leq) (joined_cell joined) (λ marks. rounded_cell (rounded marks)) (λ c. ⊥)
      (cell_order is_value leq order) (cell_join is_value leq joined order join)
      (cell_closure is_value is_marks leq rounded order closure) (cell_nothing is_value is_marks leq rounded)

  abbrev temps_join : IsJoin (IsTable Temp (λ t. ⊥)) (IsTableBelow (IsTempBelow leq))
      (joined_table (joined_temp joined))
  temps_join =
      table_join Temp is_marks (IsTempBelow leq) (joined_temp joined) (λ marks t. t) (λ t. ⊥)
      (temp_order is_value leq order) (temp_join is_value leq joined join)
      (temp_closure is_value is_marks leq order) (temp_nothing is_value is_marks leq order)

  abbrev cells_join : IsJoin (IsTable Cell (λ c. ⊥)) (IsTableBelow (IsCellBelow leq))
      (joined_table (joined_cell joined))
  cells_join =
      table_join Cell is_marks (IsCellBelow leq) (joined_cell joined) (λ marks. rounded_cell (rounded marks)) (λ c. ⊥)
      (cell_order is_value leq order) (cell_join is_value leq joined order join)
      (cell_closure is_value is_marks leq rounded order closure) (cell_nothing is_value is_marks leq rounded)

  abbrev cells_closure : IsClosure (IsTable Cell (λ c. ⊥)) is_marks (IsTableBelow (IsCellBelow leq))
      (λ marks. rounded_table (rounded_cell (rounded marks)))
  cells_closure =
      table_closure Cell is_marks (IsCellBelow leq) (joined_cell joined) (λ marks. rounded_cell (rounded marks))
      (λ c. ⊥) (cell_order is_value leq order) (cell_join is_value leq joined order join)
      (cell_closure is_value is_marks leq rounded order closure) (cell_nothing is_value is_marks leq rounded)

  pub state_order : IsOrder Is Below
  state_order = record {
    reflexive = λ s s-is. record {
      temps = temps.reflexive s.temps s-is.temps;
      cells = cells.reflexive s.cells s-is.cells;
    };
    transitive = λ s t u s-is t-is u-is p q. record {
      temps = temps.transitive s.temps t.temps u.temps s-is.temps t-is.temps u-is.temps p.temps q.temps;
      cells = cells.transitive s.cells t.cells u.cells s-is.cells t-is.cells u-is.cells p.cells q.cells;
    };
    antisymmetric = λ s t s-is t-is p q.
        let a = temps.antisymmetric s.temps t.temps s-is.temps t-is.temps p.temps q.temps in
        let b = cells.antisymmetric s.cells t.cells s-is.cells t-is.cells p.cells q.cells in
        λ i. record { temps = a i; cells = b i };
  }

  pub state_join : IsJoin Is Below (joined_state joined)
  state_join = record {
    value = λ s t s-is t-is. record {
      temps = temps_join.value s.temps t.temps s-is.temps t-is.temps;
      cells = cells_join.value s.cells t.cells s-is.cells t-is.cells;
    };
    left = λ s t s-is t-is. record {
      temps = temps_join.left s.temps t.temps s-is.temps t-is.temps;
      cells = cells_join.left s.cells t.cells s-is.cells t-is.cells;
    };
    right = λ s t s-is t-is. record {
      temps = temps_join.right s.temps t.temps s-is.temps t-is.temps;
      cells = cells_join.right s.cells t.cells s-is.cells t-is.cells;
    };
    least = λ s t u s-is t-is u-is p q. record {
      temps = temps_join.least s.temps t.temps u.temps s-is.temps t-is.temps u-is.temps p.temps q.temps;
      cells = cells_join.least s.cells t.cells u.cells s-is.cells t-is.cells u-is.cells p.cells q.cells;
    };
  }

  pub state_closure : IsClosure Is is_marks Below (λ marks. rounded_state (rounded marks))
  state_closure = record {
    value = λ marks s m s-is. record { temps = s-is.temps; cells = cells_closure.value marks s.cells m s-is.cells };
    extensive = λ marks s m s-is. record {
      temps = temps.reflexive s.temps s-is.temps;
      cells = cells_closure.extensive marks s.cells m s-is.cells;
    };
    monotone = λ marks s t m s-is t-is p. record {
      temps = p.temps;
      cells = cells_closure.monotone marks s.cells t.cells m s-is.cells t-is.cells p.cells;
    };
    idempotent = λ marks s m s-is. let e = cells_closure.idempotent marks s.cells m s-is.cells in λ i. record s
        { cells = e i };
  }

  module _ (keys : List ℕ) where
    abbrev selected : IsClosure (IsTable Cell (λ c. ⊥)) is_marks (IsTableBelow (IsCellBelow leq))
        (λ marks. selected_table (rounded_cell (rounded marks)) keys)
    selected =
        selected_closure Cell is_marks (IsCellBelow leq) (λ marks. rounded_cell (rounded marks)) (λ c. ⊥) keys
        (cell_order is_value leq order) (cell_closure is_value is_marks leq rounded order closure)
        (cell_nothing is_value is_marks leq rounded)

    -- rounding at these cells alone is a closure
    pub state_closure_at : IsClosure Is is_marks Below (λ marks. rounded_state_at (rounded marks) keys)
    state_closure_at = record {
      value = λ marks s m s-is. record { temps = s-is.temps; cells = selected.value marks s.cells m s-is.cells };
      extensive = λ marks s m s-is. record {
        temps = temps.reflexive s.temps s-is.temps;
        cells = selected.extensive marks s.cells m s-is.cells;
      };
      monotone = λ marks s t m s-is t-is p. record {
        temps = p.temps;
        cells = selected.monotone marks s.cells t.cells m s-is.cells t-is.cells p.cells;
      };
      idempotent = λ marks s m s-is. let e = selected.idempotent marks s.cells m s-is.cells in λ i. record s
          { cells = e i };
    }

  pub state_nothing : IsLeastNothing Is is_marks Below (λ marks. rounded_state (rounded marks)) (λ s. ⊥)
  state_nothing = record { below = λ s t s-is t-is none. absurd none; rounding = λ marks s m s-is none. none }

module _ {V N : Type 0} (is_value : V → Type 0) (leq : V → V → Type 0) (height : V
    → ℕ) (heights : IsHeight is_value leq height) where
  abbrev temp_tables : IsHeight (IsTable (IsTemp {N = N} is_value) (λ t. ⊥)) (IsTableBelow (IsTempBelow leq))
      (table_height (temp_height height))
  temp_tables =
      table_heights (IsTemp {N = N} is_value) (IsTempBelow leq) (λ t. ⊥) (temp_height height)
      (temp_heights is_value leq height heights)

  abbrev cell_tables : IsHeight (IsTable (IsCell {N = N} is_value) (λ c. ⊥)) (IsTableBelow (IsCellBelow leq))
      (table_height (cell_height height))
  cell_tables =
      table_heights (IsCell {N = N} is_value) (IsCellBelow leq) (λ c. ⊥) (cell_height height)
      (cell_heights is_value leq height heights)

  -- a state's height rises where the state does
  pub state_heights : IsHeight {V = TaskState V N} (IsState is_value) (IsStateBelow leq) (state_height height)
  state_heights = record {
    climbs = λ s t s-is t-is p.
        let a = temp_tables.climbs s.temps t.temps s-is.temps t-is.temps p.temps in
        let b = cell_tables.climbs s.cells t.cells s-is.cells t-is.cells p.cells in
        omega arith;
    strictly = λ s t s-is t-is p flat.
        let a = temp_tables.climbs s.temps t.temps s-is.temps t-is.temps p.temps in
        let b = cell_tables.climbs s.cells t.cells s-is.cells t-is.cells p.cells in
        let a' : s.temps ≡ t.temps = temp_tables.strictly s.temps t.temps s-is.temps t-is.temps p.temps (omega arith) in
        let b' : s.cells ≡ t.cells = cell_tables.strictly s.cells t.cells s-is.cells t-is.cells p.cells (omega arith) in
        λ i. record { temps = a' i; cells = b' i };
  }
