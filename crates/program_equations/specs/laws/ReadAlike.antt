-- What the equations read of a layout is all that they need: each part of them is the same over the layout and over
-- what is read of it.
use Rattle.std.specs.Prelude.{◌≡◌, ℕ, zero, suc, ◌<◌, ◌==◌, Bool, cond, List, [], ◌++◌, length, map, slice_get}
use Rattle.std.specs.Prelude.{Option, Some, None, refl}
use Rattle.std.proofs.Common.{ap, subst, ◌∙◌}
use Rattle.std.specs.FinMap.{empty as no_entry, insert}
use Rattle.region_cells.specs.tm_lattice.Tables.{Table}
use Rattle.region_cells.specs.tm_typed.declared.types.CType.{CType}
use Rattle.region_cells.specs.tm_typed.declared.types.CType.TheVariants as Types
use Rattle.region_cells.specs.tm_typed.declared.types.TypeEntry.{TypeEntry}
use Rattle.region_cells.specs.tm_typed.declared.types.Scalar.{Scalar}
use Rattle.region_cells.specs.tm_typed.declared.types.Scalar.TheVariants as Scalars
use Rattle.region_cells.specs.tm_typed.Files.{TypedFileTree}
use Rattle.region_cells.specs.tm_laid.declared.objects.Initial.{Initial}
use Rattle.region_cells.specs.tm_laid.declared.objects.Initial.TheVariants as Initials
use Rattle.region_cells.specs.tm_laid.TypeCells.{TypeCell, count_by, abstract_by, abstract_count}
use Rattle.region_cells.specs.tm_laid.TypeCells.{abstract_cells_of_type, cells_by}
use Rattle.region_cells.specs.tm_laid.TypeCells.{type_cells, type_depth, entry_of}
use Rattle.region_cells.specs.tm_laid.Layouts.{LaidTree, object_at, abstract_at, cell_at, is_alive_by, is_alive}
use Rattle.region_cells.specs.tm_laid.Layouts.{begins_with}
use Rattle.region_cells.specs.tm_laid.Layouts.{scalars_from, stands_at}
use Rattle.region_cells.specs.concrete_values.declared.values.Pointer.{Pointer}
use Rattle.region_cells.specs.concrete_values.declared.values.Pointer.TheVariants as Pointers
use Rattle.region_cells.specs.concrete_values.declared.values.Value.{Value}
use Rattle.region_cells.specs.concrete_values.declared.values.Value.TheVariants as Constant
use Rattle.region_cells.specs.flow_graph.declared.operations.Into.{Into}
use Rattle.region_cells.specs.flow_graph.declared.operations.Into.TheVariants as Intos
use Rattle.region_cells.specs.flow_graph.declared.operations.Operation.{Operation}
use Rattle.region_cells.specs.flow_graph.declared.operations.Operation.TheVariants as Op
use Rattle.edge_filters.specs.pointer_dom.Values.{Values, joined_values}
use Rattle.edge_filters.specs.transfer_rows.StateForms.{Cell, State, only_pointers, own_of}
use Rattle.edge_filters.specs.transfer_rows.Actions.{Spot, constant, dereferenced, gives, loads, loads_any, stores}
use Rattle.edge_filters.specs.transfer_rows.Meanings.{IsSpotOf}
use Rattle.task_equations.specs.typed_values.Types.{IsOfType}
use Rattle.edge_filters.specs.edge_actions.Layouts.{open_value, is_owned_by, is_reachable, spot_at, spots_in}
use Rattle.edge_filters.specs.edge_actions.Layouts.{spots_before, spots_of}
use Rattle.edge_filters.specs.edge_actions.Layouts.{is_shared_cell, is_smashed_cell}
use Rattle.edge_filters.specs.edge_actions.Edges.{pointer_value, constant_value, action_of}
use Rattle.task_equations.specs.temporary_types.Sorts.{Sort, LeadsInto, Works, FitsSorts}
use Rattle.task_equations.specs.state_fits.Fits.{SpotsSeen}
use Rattle.task_equations.specs.state_fits.Typed.{PointsToObject, NamesObject, NamesObjects, SpotsAgree}
use Rattle.program_equations.specs.Readings.{read_file, read_layout}
use Rattle.program_equations.specs.Entries.{initial_value, initial_or_none, initial_at, initial_below, initial_of}
use Rattle.program_equations.specs.Entries.{entry_cell, entry_cells, entry_state, first_state, later_state}

-- ## Types

module _ (file : TypedFileTree) where
  count_read : (count : ℕ → ℕ) (t : CType) → count_by (read_file file) count t ≡ count_by file count t
  count_read count Types.Void = refl
  count_read count (Types.Int t) = refl
  count_read count (Types.Pointer q) = refl
  count_read count (Types.Array e n) = refl
  count_read count (Types.Struct k) = refl

  abstract_read : (count : ℕ → ℕ) (t : CType) → abstract_by (read_file file) count t ≡ abstract_by file count t
  abstract_read count Types.Void = refl
  abstract_read count (Types.Int t) = refl
  abstract_read count (Types.Pointer q) = refl
  abstract_read count (Types.Array e n) = refl
  abstract_read count (Types.Struct k) = refl

  -- as many abstract cells
  abstracts_read : (depth n : ℕ) → abstract_count (read_file file) depth n ≡ abstract_count file depth n
  unfolding abstract_count
  abstracts_read zero n = refl
  abstracts_read (suc depth) n =
      abstract_read (abstract_count (read_file file) depth) (entry_of file n).ctype
      ∙ ap (λ count. abstract_by file count (entry_of file n).ctype) (λ i. λ m. abstracts_read depth m i)

  cells_read : (at : ℕ → ℕ → List TypeCell) (count : ℕ → ℕ) (start : ℕ) (e : TypeEntry) (t : CType)
      → cells_by (read_file file) at count start e t ≡ cells_by file at count start e t
  cells_read at count start e Types.Void = refl
  cells_read at count start e (Types.Int t) = refl
  cells_read at count start e (Types.Pointer q) = refl
  cells_read at count start e (Types.Array element n) = refl
  cells_read at count start e (Types.Struct k) = refl

  -- and the same cells
  pub type_cells_read : (depth n start : ℕ) → type_cells (read_file file) depth n start ≡ type_cells file depth n start
  unfolding type_cells
  type_cells_read zero n start = refl
  type_cells_read (suc depth) n start =
      let e = entry_of file n in
      cells_read (type_cells (read_file file) depth) (abstract_cells_of_type (read_file file)) start e e.ctype
      ∙ (λ i. cells_by file (λ m from. type_cells_read depth m from i)
      (λ m. abstracts_read (type_depth file) m i) start e e.ctype)

module _ (laid : LaidTree) where
  -- a type stands where it stands
  pub stands_read : (object offset n : ℕ)
      → stands_at (read_layout laid) object offset n ≡ stands_at laid object offset n
  stands_read object offset n =
      ap (λ cells. begins_with (scalars_from laid object offset) (map (λ (c : TypeCell). c.scalar) cells))
      (type_cells_read laid.file (type_depth laid.file) n 0)

  -- ## Objects that are alive or reachable

  alive_by_read : (path : ℕ) (owner : Option ℕ)
      → is_alive_by (read_layout laid) path owner ≡ is_alive_by laid path owner
  alive_by_read path None = refl
  alive_by_read path (Some q) = refl

  pub alive_read : (path object : ℕ) → is_alive (read_layout laid) path object ≡ is_alive laid path object
  alive_read path object = alive_by_read path (object_at laid object).owner

  owned_read : (task : ℕ) (owner : Option ℕ) → is_owned_by (read_layout laid) task owner ≡ is_owned_by laid task owner
  owned_read task None = refl
  owned_read task (Some path) = refl

  pub reachable_read : (task object : ℕ) → is_reachable (read_layout laid) task object ≡ is_reachable laid task object
  reachable_read task object = owned_read task (object_at laid object).owner

  -- ## Spots

  spots_in_read : (scalar : Scalar) (object n : ℕ)
      → spots_in (read_layout laid) scalar object n ≡ spots_in laid scalar object n
  spots_in_read scalar object zero = refl
  spots_in_read scalar object (suc n) =
      ap (λ (spots : List Spot). spots ++ spot_at laid scalar object n) (spots_in_read scalar object n)

  spots_before_read : (task : ℕ) (scalar : Scalar) (n : ℕ)
      → spots_before (read_layout laid) task scalar n ≡ spots_before laid task scalar n
  spots_before_read task scalar zero = refl
  spots_before_read task scalar (suc n) =
      let before = spots_before_read task scalar n in
      let reachable = reachable_read task n in
      let own = spots_in_read scalar n (object_at laid n).cells in
      λ i. before i ++ cond (reachable i) (own i) []

  pub spots_read : (task : ℕ) (scalar : Scalar) → spots_of (read_layout laid) task scalar ≡ spots_of laid task scalar
  unfolding spots_of
  spots_read task scalar = spots_before_read task scalar (length laid.objects)

  pub shared_read : is_shared_cell (read_layout laid) ≡ is_shared_cell laid
  shared_read = refl

  pub smashed_read : is_smashed_cell (read_layout laid) ≡ is_smashed_cell laid
  smashed_read = refl

  -- ## Actions

  pointer_read : (p : Pointer) → pointer_value (read_layout laid) p ≡ pointer_value laid p
  pointer_read Pointers.Null = refl
  pointer_read Pointers.Invalid = refl
  pointer_read (Pointers.To object offset) = refl

  constant_read : (v : Value) → constant_value (read_layout laid) v ≡ constant_value laid v
  constant_read (Constant.Number n) = refl
  constant_read (Constant.Pointer p) = ap only_pointers (pointer_read p)

  pub action_read : (task : ℕ) (pointers answer : Bool) (op : Operation)
      → action_of (read_layout laid) task pointers answer op ≡ action_of laid task pointers answer op
  action_read task pointers answer Op.Skip = refl
  action_read task pointers answer (Op.Const to value) = ap (λ v. gives to (constant v)) (constant_read value)
  action_read task pointers answer (Op.Copy to from) = refl
  action_read task pointers answer (Op.Un to operator of from place) = refl
  action_read task pointers answer (Op.Bin to operator of left right place) = refl
  action_read task pointers answer (Op.BinPointers to equal left right) = refl
  action_read task pointers answer (Op.Convert to was of from) = refl
  action_read task pointers answer (Op.Base to object) = refl
  action_read task pointers answer (Op.Offset to from cells) = refl
  action_read task pointers answer (Op.Index to from count cells by place) = refl
  action_read task pointers answer (Op.Move to from cells minus by place) = refl
  action_read task pointers answer (Op.Deref to from target path place) =
      λ i. gives to (dereferenced (λ object. alive_read path object i)
      (λ object offset. stands_read object offset target i) from)
  action_read task pointers answer (Op.Load to address scalar place) =
      ap (λ spots. loads spots to address) (spots_read task scalar)
  action_read task pointers answer (Op.LoadAny to address scalar place) =
      ap (λ spots. loads_any spots to address (open_value scalar)) (spots_read task scalar)
  action_read task pointers answer (Op.Store address value scalar into place) =
      ap (λ spots. stores spots address value) (spots_read task scalar)
  action_read task pointers answer (Op.Any to low high) = refl
  action_read task pointers answer (Op.Clear object) = refl
  action_read task pointers answer (Op.Usable pointer place) = refl
  action_read task pointers answer (Op.Assume test) = refl
  action_read task pointers answer (Op.Lock mutex place) = refl
  action_read task pointers answer (Op.Unlock mutex place) = refl
  action_read task pointers answer Op.Yield = refl
  action_read task pointers answer (Op.Probe to mutex place) = refl

  -- ## Premises

  into_read : (into : Into) → LeadsInto laid into → LeadsInto (read_layout laid) into
  into_read (Intos.Object object) h = h
  into_read Intos.Pointed h = h

  works_read : (sorts : List Sort) (op : Operation) → Works laid sorts op → Works (read_layout laid) sorts op
  works_read sorts Op.Skip h = h
  works_read sorts (Op.Const to value) h = h
  works_read sorts (Op.Copy to from) h = h
  works_read sorts (Op.Un to operator of from place) h = h
  works_read sorts (Op.Bin to operator of left right place) h = h
  works_read sorts (Op.BinPointers to equal left right) h = h
  works_read sorts (Op.Convert to was of from) h = h
  works_read sorts (Op.Base to object) h = h
  works_read sorts (Op.Offset to from cells) h = h
  works_read sorts (Op.Index to from count cells by place) h = h
  works_read sorts (Op.Move to from cells minus by place) h = h
  works_read sorts (Op.Deref to from target path place) h = h
  works_read sorts (Op.Load to address scalar place) h = h
  works_read sorts (Op.LoadAny to address scalar place) h = h
  works_read sorts (Op.Store address value scalar into place) h = (h.0, h.1, into_read into h.2)
  works_read sorts (Op.Any to low high) h = h
  works_read sorts (Op.Clear object) h = h
  works_read sorts (Op.Usable pointer place) h = h
  works_read sorts (Op.Assume test) h = h
  works_read sorts (Op.Lock mutex place) h = h
  works_read sorts (Op.Unlock mutex place) h = h
  works_read sorts Op.Yield h = h
  works_read sorts (Op.Probe to mutex place) h = h

  pub sorts_read : (sorts : List Sort) (op : Operation)
      → FitsSorts laid sorts op → FitsSorts (read_layout laid) sorts op
  sorts_read sorts op h = (works_read sorts op h.0, h.1)

  object_read : (p : Pointer) → PointsToObject laid p → PointsToObject (read_layout laid) p
  object_read Pointers.Null h = h
  object_read Pointers.Invalid h = h
  object_read (Pointers.To object offset) h = h

  name_read : (v : Value) → NamesObject laid v → NamesObject (read_layout laid) v
  name_read (Constant.Number n) h = h
  name_read (Constant.Pointer p) h = object_read p h

  pub names_read : (op : Operation) → NamesObjects laid op → NamesObjects (read_layout laid) op
  names_read Op.Skip h = tt
  names_read (Op.Const to value) h = name_read value h
  names_read (Op.Copy to from) h = tt
  names_read (Op.Un to operator of from place) h = tt
  names_read (Op.Bin to operator of left right place) h = tt
  names_read (Op.BinPointers to equal left right) h = tt
  names_read (Op.Convert to was of from) h = tt
  names_read (Op.Base to object) h = tt
  names_read (Op.Offset to from cells) h = tt
  names_read (Op.Index to from count cells by place) h = tt
  names_read (Op.Move to from cells minus by place) h = tt
  names_read (Op.Deref to from target path place) h = tt
  names_read (Op.Load to address scalar place) h = tt
  names_read (Op.LoadAny to address scalar place) h = tt
  names_read (Op.Store address value scalar into place) h = tt
  names_read (Op.Any to low high) h = tt
  names_read (Op.Clear object) h = tt
  names_read (Op.Usable pointer place) h = tt
  names_read (Op.Assume test) h = tt
  names_read (Op.Lock mutex place) h = tt
  names_read (Op.Unlock mutex place) h = tt
  names_read Op.Yield h = tt
  names_read (Op.Probe to mutex place) h = tt

  pub agree_read : (task : ℕ) → SpotsAgree laid task → SpotsAgree (read_layout laid) task
  agree_read task h scalar spot is = h scalar spot (subst (λ spots. IsSpotOf spots spot) (spots_read task scalar) is)

  -- each cell that a body may reach is one that it sees
  pub seen_read : (task : ℕ) → SpotsSeen laid task → SpotsSeen (read_layout laid) task
  seen_read task h scalar spot is =
      let r = h scalar spot (subst (λ spots. IsSpotOf spots spot) (spots_read task scalar) is) in
      record { cell = r.cell; seen = r.seen }

  pub type_read : (scalar : Scalar) (v : Values) → IsOfType laid scalar v → IsOfType (read_layout laid) scalar v
  type_read (Scalars.Int t) v h = h
  type_read (Scalars.Pointer class) v h = h

  pub type_laid : (scalar : Scalar) (v : Values) → IsOfType (read_layout laid) scalar v → IsOfType laid scalar v
  type_laid (Scalars.Int t) v h = h
  type_laid (Scalars.Pointer class) v h = h

  -- ## Entries

  initial_value_read : (v : Initial) → initial_value (read_layout laid) v ≡ initial_value laid v
  initial_value_read (Initials.Number n) = refl
  initial_value_read Initials.Null = refl
  initial_value_read (Initials.To object offset) = refl

  or_none_read : (a : Option Initial) → initial_or_none (read_layout laid) a ≡ initial_or_none laid a
  or_none_read None = refl
  or_none_read (Some v) = initial_value_read v

  pub initial_read : (cell : ℕ) → initial_at (read_layout laid) cell ≡ initial_at laid cell
  initial_read cell = or_none_read (slice_get laid.initial cell)

  below_read : (n x : ℕ) → initial_below (read_layout laid) n x ≡ initial_below laid n x
  below_read zero x = refl
  below_read (suc n) x =
      let before = below_read n x in
      let own = initial_read n in
      λ i. cond ((cell_at laid n).abstract_cell == x) (joined_values (before i) (own i)) (before i)

  pub initial_of_read : (x : ℕ) → initial_of (read_layout laid) x ≡ initial_of laid x
  initial_of_read x = below_read (length laid.initial) x

  entry_cells_read : (task : ℕ) (shared : ℕ → Values) (n : ℕ)
      → entry_cells (read_layout laid) task shared n ≡ entry_cells laid task shared n
  entry_cells_read task shared zero = refl
  entry_cells_read task shared (suc n) =
      let before = entry_cells_read task shared n in
      let reachable = reachable_read task (abstract_at laid n).object in
      λ i. cond (reachable i) (insert (before i) n (entry_cell laid shared n)) (before i)

  pub entry_read : (task : ℕ) (shared : ℕ → Values)
      → entry_state (read_layout laid) task shared ≡ entry_state laid task shared
  entry_read task shared =
      ap (λ (cells : Table Cell). record { temps = no_entry; cells = cells })
      (entry_cells_read task shared (length laid.abstract_cells))

  pub first_read : (task : ℕ) → first_state (read_layout laid) task ≡ first_state laid task
  first_read task =
      entry_read task (initial_of (read_layout laid)) ∙ ap (entry_state laid task) (λ i. λ x. initial_of_read x i)

  pub later_read : (task : ℕ) (state : Option State)
      → later_state (read_layout laid) task state ≡ later_state laid task state
  later_read task None = refl
  later_read task (Some s) = ap Some (entry_read task (own_of s))
