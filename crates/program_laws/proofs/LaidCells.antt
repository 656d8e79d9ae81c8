-- The cells of a file that is typed and laid out.
use Rattle.std.proofs.Common.{sym, subst, ℕ, zero, suc, ◌+◌, ◌<◌, ◌≤◌, List, [], ◌∷◌, length, get_or}
use Rattle.std.proofs.Common.{arith}
use Rattle.layout_laws.specs.tm_typed.declared.types.Scalar.{Scalar}
use Rattle.layout_laws.specs.tm_typed.Files.{TypedFileTree}
use Rattle.layout_laws.specs.tm_laid.declared.objects.DeclaredObject.{DeclaredObject}
use Rattle.layout_laws.specs.tm_laid.declared.objects.LaidObject.{LaidObject}
use Rattle.layout_laws.specs.tm_laid.TypeCells.{cells_of_type, abstract_cells_of_type}
use Rattle.layout_laws.specs.tm_laid.Objects.{objects_from}
use Rattle.layout_laws.specs.tm_laid.Paths.{paths_of}
use Rattle.layout_laws.specs.tm_laid.Layouts.{LaidTree, no_object, abstract_at, cell_at, summed_types, declared_objects}
use Rattle.layout_laws.specs.tm_laid.Layouts.{layout_of}
use Rattle.layout_laws.proofs.low.cell_layout.CellPairs.{cells_of_objects}
use Rattle.layout_laws.specs.Limited.{IsLimited}
use Rattle.layout_laws.proofs.Counted.{abstracts_counted}
use Rattle.layout_laws.proofs.Kept.{limits_kept}
use Rattle.program_systems.specs.transfer_rows.Actions.{Spot}
use Rattle.program_systems.specs.transfer_rows.Meanings.{IsSpotOf}
use Rattle.program_systems.specs.edge_actions.Layouts.{spots_of}
use Rattle.program_systems.specs.typed_values.Types.{IsOfType}
use Rattle.program_systems.specs.state_fits.Fits.{SpotsSeen}
use Rattle.program_systems.specs.state_fits.Typed.{SpotsAgree}
use Rattle.operation_laws.specs.lowering_laws.LaidFiles.{IsLaidFile}
use Rattle.operation_laws.proofs.low.lowering_laws.Founded.{file_layable}
use Rattle.operation_laws.proofs.low.next_action_laws.RegularFiles.{initial_values_fit}
use Rattle.operation_laws.proofs.FileSorts.{few_cells}
use Rattle.program_systems.specs.program_equations.Entries.{initial_at}
use Rattle.program_laws.proofs.SpotsOfCells.{AreCells, AreAmong, spots_agree, spots_seen}
use Rattle.program_laws.proofs.InitialCells.{initial_fits}

-- the abstract cells of objects stand one behind the other
abstracts_behind : (file : TypedFileTree) (cell abstract : ℕ) (ds : List DeclaredObject) (o : ℕ)
    → o < length (objects_from file cell abstract ds)
    → (let x : LaidObject = get_or (objects_from file cell abstract ds) o no_object in
    x.first_abstract + x.abstract_cells ≤ abstract + summed_types (abstract_cells_of_type file) ds)
abstracts_behind file cell abstract [] o lt = absurd (omega (arith, lt))
abstracts_behind file cell abstract (d ∷ ds) zero lt = omega arith
abstracts_behind file cell abstract (d ∷ ds) (suc o) lt =
    let r = abstracts_behind file (cell + cells_of_type file d.of.number)
    (abstract + abstract_cells_of_type file d.of.number) ds o (omega (arith, lt)) in
    omega (arith, r)

abstracts_among : (file : TypedFileTree) → AreAmong (layout_of file)
unfolding layout_of
abstracts_among file o lt =
    let ds = declared_objects file (paths_of file) in
    let behind = abstracts_behind file 0 0 ds o lt in
    let counted = abstracts_counted file 0 0 0 ds in
    omega (arith, behind, counted)

-- ## Files

module _ (laid : LaidTree) (is : IsLaidFile laid) where
  pub limited : IsLimited is.file laid
  limited = limits_kept is.scale is.file laid is.answered

  -- what holds of the layout of the file holds of this one
  pub of_layout : (P : LaidTree → Type 0) → P (layout_of is.file) → P laid
  of_layout P h = let l = limited in subst P (sym l.whole) h

  cells_are : AreCells laid
  cells_are =
      let order = file_layable is.main is.items is.file is.typed in
      of_layout AreCells (cells_of_objects is.file order.0 order.1)

  pub cells_agree : (task : ℕ) → SpotsAgree laid task
  cells_agree task = spots_agree laid cells_are task

  pub cells_seen : (task : ℕ) → SpotsSeen laid task
  cells_seen task = spots_seen laid cells_are (of_layout AreAmong (abstracts_among is.file)) task

  -- cells hold values of their types at first
  abbrev HoldsAtFirst : LaidTree → Type 0
  HoldsAtFirst l = (cell : ℕ) → cell < length l.initial
      → IsOfType l (abstract_at l (cell_at l cell).abstract_cell).scalar (initial_at l cell)

  pub holds_at_first : HoldsAtFirst laid
  holds_at_first =
      let order = file_layable is.main is.items is.file is.typed in
      of_layout HoldsAtFirst (initial_fits is.file order.0 order.1 (few_cells laid is)
      (initial_values_fit is.main is.items is.file is.typed))
