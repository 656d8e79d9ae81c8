-- Fronts and cells of a body by themselves: what fits is closed under joins and rounding, and its height is limited.
use Rattle.std.specs.Prelude.{◌≡◌, ℕ, ◌==◌, ◌&&◌, Bool, true, false, cond, bit_or, ℤ, ◌≤◌, List, Option, Some, None}
use Rattle.std.proofs.Common.{ap, ◌∙◌}
use Rattle.std.proofs.lemmas.Bool.{false≢true}
use Rattle.std.specs.List.{list_any}
use Rattle.sparse_bodies.specs.task_equations.table_covers.tm_lattice.Heights.{IsHeight, table_height}
use Rattle.sparse_bodies.specs.task_equations.table_covers.tm_lattice.LatticeLaws.{IsOrder, IsJoin, IsClosure}
use Rattle.sparse_bodies.specs.task_equations.table_covers.tm_lattice.Tables.{Table, IsTable, IsTableBelow}
use Rattle.sparse_bodies.specs.task_equations.table_covers.tm_lattice.Tables.{joined_table}
use Rattle.sparse_bodies.specs.task_equations.table_covers.tm_lattice.laws.TableHeights.{table_heights}
use Rattle.sparse_bodies.specs.task_equations.table_covers.tm_lattice.laws.TableLaws.{table_order, table_join}
use Rattle.sparse_bodies.specs.task_equations.temporary_types.tm_laid.Layouts.{abstract_at}
use Rattle.sparse_bodies.specs.task_equations.temporary_types.Sorts.{Sort, types_of}
use Rattle.sparse_bodies.specs.task_equations.temporary_extents.Extents.{extents_in}
use Rattle.sparse_bodies.specs.task_equations.value_heights.pointer_dom.Values.{Values, IsValues, IsValuesBelow}
use Rattle.sparse_bodies.specs.task_equations.value_heights.pointer_dom.Values.{joined_values, rounded_values}
use Rattle.sparse_bodies.specs.task_equations.value_heights.pointer_dom.laws.ValueLaws.{values_order, values_join}
use Rattle.sparse_bodies.specs.task_equations.value_heights.pointer_dom.laws.ValueLaws.{values_closure}
use Rattle.sparse_bodies.specs.task_equations.value_heights.Heights.{value_height}
use Rattle.sparse_bodies.specs.task_equations.value_heights.laws.ValueHeights.{value_heights}
use Rattle.sparse_bodies.specs.task_equations.state_fits.cell_env.Cells.{joined_cell, rounded_cell, cell_height}
use Rattle.sparse_bodies.specs.task_equations.state_fits.cell_env.Temps.{joined_temp, temp_height}
use Rattle.sparse_bodies.specs.task_equations.state_fits.cell_env.laws.Bits.{within_least}
use Rattle.sparse_bodies.specs.task_equations.state_fits.cell_env.laws.CellLaws.{cell_order, cell_join, cell_closure}
use Rattle.sparse_bodies.specs.task_equations.state_fits.cell_env.laws.CellLaws.{cell_heights}
use Rattle.sparse_bodies.specs.task_equations.state_fits.cell_env.laws.TempLaws.{temp_order, temp_join, temp_closure}
use Rattle.sparse_bodies.specs.task_equations.state_fits.cell_env.laws.TempLaws.{temp_nothing, temp_heights}
use Rattle.sparse_bodies.specs.task_equations.state_fits.transfer_rows.StateForms.{Temp, Cell, State, IsTempForm}
use Rattle.sparse_bodies.specs.task_equations.state_fits.transfer_rows.StateForms.{IsCellForm, IsTempUnder, IsCellUnder}
use Rattle.sparse_bodies.specs.task_equations.typed_values.laws.TypeLaws.{joined_of_type, rounded_of_type}
use Rattle.sparse_bodies.specs.task_equations.state_fits.Fits.{file_set}
use Rattle.sparse_bodies.specs.task_equations.state_fits.Kinds.{InExtents}
use Rattle.sparse_bodies.specs.task_equations.state_fits.Tops.{top_cell, top_state}
use Rattle.sparse_bodies.specs.task_equations.state_fits.laws.ExtentKinds.{extents_are_kinds}
use Rattle.sparse_bodies.specs.task_equations.state_fits.laws.FileSets.{in_sixteen}
use Rattle.sparse_bodies.specs.task_equations.state_fits.laws.PlacesFit.{joined_fits}
use Rattle.sparse_bodies.specs.task_equations.state_fits.laws.TopStates.{all_are, values_below, top_is, fits_below}
use Rattle.sparse_bodies.specs.task_equations.Bodies.{Body, node_at, live_at}
use Rattle.sparse_bodies.specs.task_equations.Equations.{cells_at}
use Rattle.sparse_bodies.specs.task_equations.Premises.{IsBody, FitsBody}
use Rattle.sparse_bodies.specs.task_equations.laws.Extents.{node_typed}
use Rattle.front_constraints.specs.Premises.{AreValues, IsRounding}
use Rattle.body_fronts.specs.FrontForms.{fronts, cells, FitsFront, FitsCellAt}
use Rattle.body_fronts.specs.BodySystems.{rounded_where}

-- ## Orders, joins and heights

abbrev AreValuesOf : Values → Type 0
AreValuesOf v = IsValues v

abbrev AnyMarks : List ℤ → Type 0
AnyMarks marks = Unit {0}

abbrev Under : Values → Values → Type 0
Under v w = IsValuesBelow v w

pub fronts_order : IsOrder (IsTable IsTempForm (λ t. ⊥)) (IsTableBelow IsTempUnder)
fronts_order =
    table_order IsTempForm AnyMarks IsTempUnder (joined_temp joined_values) (λ marks t. t) (λ t. ⊥)
    (temp_order AreValuesOf Under values_order) (temp_join AreValuesOf Under joined_values values_join)
    (temp_closure AreValuesOf AnyMarks Under values_order) (temp_nothing AreValuesOf AnyMarks Under values_order)

pub fronts_join : IsJoin (IsTable IsTempForm (λ t. ⊥)) (IsTableBelow IsTempUnder)
    (joined_table (joined_temp joined_values))
fronts_join =
    table_join IsTempForm AnyMarks IsTempUnder (joined_temp joined_values) (λ marks t. t) (λ t. ⊥)
    (temp_order AreValuesOf Under values_order) (temp_join AreValuesOf Under joined_values values_join)
    (temp_closure AreValuesOf AnyMarks Under values_order) (temp_nothing AreValuesOf AnyMarks Under values_order)

pub cells_order : IsOrder IsCellForm IsCellUnder
cells_order = cell_order AreValuesOf Under values_order

pub cells_join : IsJoin IsCellForm IsCellUnder (joined_cell joined_values)
cells_join = cell_join AreValuesOf Under joined_values values_order values_join

cells_closure : IsClosure IsCellForm AnyMarks IsCellUnder (λ marks. rounded_cell (rounded_values marks))
cells_closure = cell_closure AreValuesOf AnyMarks Under rounded_values values_order values_closure

front_heights : IsHeight (IsTable IsTempForm (λ t. ⊥)) (IsTableBelow IsTempUnder)
    (table_height (temp_height value_height))
front_heights = table_heights IsTempForm IsTempUnder (λ t. ⊥) (temp_height value_height)
    (temp_heights AreValuesOf Under value_height value_heights)

cells_heights : IsHeight IsCellForm IsCellUnder (cell_height value_height)
cells_heights = cell_heights AreValuesOf Under value_height value_heights

module _ (b : Body) (sorts : List Sort) (is : IsBody b sorts) (m : ℕ) (scratch : State)
    (scratch_fits : FitsBody b m scratch) where
  -- ## Fronts

  -- with the cells of a state that fits, a front that fits a node makes a state that does
  pub with_cells : (n : ℕ) (f : Table Temp) → FitsFront b n f
      → FitsBody b n (record { temps = f; cells = scratch.cells })
  with_cells n f h = record {
    form = record { temps = h.form; cells = (let s = scratch_fits.form in s.cells) };
    temps = h.temps;
    copies = h.copies;
    cells = scratch_fits.cells;
  }

  pub its_front : (n : ℕ) (s : State) → FitsBody b n s → FitsFront b n s.temps
  its_front n s h = record { form = (let f = h.form in f.temps); temps = h.temps; copies = h.copies }

  joined_front : (n : ℕ) (f g : Table Temp) → FitsFront b n f → FitsFront b n g
      → FitsFront b n (joined_table (joined_temp joined_values) f g)
  joined_front n f g h k =
      let q = node_at b n in
      let s : State = record { temps = f; cells = scratch.cells } in
      let t : State = record { temps = g; cells = scratch.cells } in
      let j = joined_fits b.laid b.task (InExtents b.laid (extents_in b.edges))
      (extents_are_kinds b.laid (extents_in b.edges)) (live_at b q.place) s t (with_cells n f h) (with_cells n g k) in
      record { form = (let i = j.form in i.temps); temps = j.temps; copies = j.copies }

  front_within : (n : ℕ) (f : Table Temp) → FitsFront b n f
      → (let q = node_at b n in let t = top_state b.laid (live_at b q.place) in
      table_height (temp_height value_height) f ≤ table_height (temp_height value_height) t.temps)
  front_within n f h =
      let q = node_at b n in
      let t = top_state b.laid (live_at b q.place) in
      let s : State = record { temps = f; cells = scratch.cells } in
      let le = fits_below b.laid b.task (types_of sorts) (live_at b q.place) s
      (node_typed b sorts is n s (with_cells n f h)) in
      let top = top_is b.laid b.task (types_of sorts) (live_at b q.place) in
      front_heights.climbs f t.temps h.form top.temps le.temps

  pub front_values : (n : ℕ) → (let q = node_at b n in let t = top_state b.laid (live_at b q.place) in
      AreValues fronts (FitsFront b n) (table_height (temp_height value_height))
      (table_height (temp_height value_height) t.temps))
  front_values n = record {
    value = λ f h. h.form;
    joined = joined_front n;
    within = front_within n;
    climbs = λ f g h k le. front_heights.climbs f g h.form k.form le;
    strictly = λ f g h k le flat. front_heights.strictly f g h.form k.form le flat;
  }

  -- ## Cells

  both_none : (p q : ℕ) → p ≡ 0 → q ≡ 0 → bit_or p q ≡ 0
  both_none p q h k = ap (λ z. bit_or z q) h ∙ ap (bit_or 0) k

  joined_cells : (x : ℕ) (c d : Cell) → FitsCellAt b x c → FitsCellAt b x d
      → FitsCellAt b x (joined_cell joined_values c d)
  joined_cells x c d h k = record {
    form = cells_join.value c d h.form k.form;
    of = (let p = h.of in let q = k.of in record {
      value = (let a = abstract_at b.laid x in joined_of_type b.laid a.scalar c.value d.value p.value q.value);
      pending = within_least c.pending d.pending (file_set b.laid) p.pending q.pending;
      local = λ e. both_none c.pending d.pending (p.local e) (q.local e);
      shared = λ e. ap (λ z. z && d.stored) (p.shared e);
    });
  }

  cell_below_top : (x : ℕ) (c : Cell) → FitsCellAt b x c → IsCellUnder c (top_cell b.laid x)
  cell_below_top x c h =
      let p = h.of in
      let a = abstract_at b.laid x in record {
        value = values_below b.laid a.scalar c.value p.value;
        pending = in_sixteen b.laid c.pending p.pending;
        fresh = λ e. absurd (false≢true e);
        stored = λ e. absurd (false≢true e);
      }

  pub cell_values : (x : ℕ) → AreValues cells (FitsCellAt b x) (cell_height value_height)
      (cell_height value_height (top_cell b.laid x))
  cell_values x = record {
    value = λ c h. h.form;
    joined = joined_cells x;
    within = λ c h.
        cells_heights.climbs c (top_cell b.laid x) h.form (all_are b.laid) (cell_below_top x c h);
    climbs = λ c d h k le. cells_heights.climbs c d h.form k.form le;
    strictly = λ c d h k le flat. cells_heights.strictly c d h.form k.form le flat;
  }

  -- ## Rounding

  rounded_cell_fits : (x : ℕ) (c : Cell) → FitsCellAt b x c → FitsCellAt b x (rounded_cell (rounded_values b.marks) c)
  rounded_cell_fits x c h = record {
    form = cells_closure.value b.marks c tt h.form;
    of = (let p = h.of in record {
      value = (let a = abstract_at b.laid x in rounded_of_type b.laid b.marks a.scalar c.value is.marks p.value);
      pending = p.pending;
      local = p.local;
      shared = p.shared;
    });
  }

  whole : (x : ℕ) → IsRounding cells (FitsCellAt b x) (rounded_cell (rounded_values b.marks))
  whole x = record {
    rounded = rounded_cell_fits x;
    extensive = λ c h. cells_closure.extensive b.marks c tt h.form;
    rising = λ c d h k le. cells_closure.monotone b.marks c d tt h.form k.form le;
    idempotent = λ c h. cells_closure.idempotent b.marks c tt h.form;
  }

  plain : (x : ℕ) → IsRounding cells (FitsCellAt b x) (λ c. c)
  plain x = record {
    rounded = λ c h. h;
    extensive = λ c h. cells_order.reflexive c h.form;
    rising = λ c d h k le. le;
    idempotent = λ c h. λ i. c;
  }

  by_test : (x : ℕ) (t : Bool) → IsRounding cells (FitsCellAt b x)
      (λ c. cond t (rounded_cell (rounded_values b.marks) c) c)
  by_test x true = whole x
  by_test x false = plain x

  at_node : (x : ℕ) (keys : Option (List ℕ)) → IsRounding cells (FitsCellAt b x) (rounded_where b.marks keys x)
  at_node x None = plain x
  at_node x (Some keys) = by_test x (list_any (λ k. k == x) keys)

  pub roundings : (n x : ℕ) → IsRounding cells (FitsCellAt b x) (rounded_where b.marks (cells_at b n) x)
  roundings n x = at_node x (cells_at b n)
