-- The cells of objects are among those of the layout.
use Rattle.std.proofs.Common.{◌≡◌, refl, subst, ℕ, zero, suc, ◌+◌, ◌<◌, ◌≤◌, List, [], ◌∷◌, length, map, get_or, arith}
use Rattle.std.proofs.lemmas.List.{length-map, length-append}
use Rattle.concrete_steps.specs.tm_typed.Files.{TypedFileTree}
use Rattle.concrete_steps.specs.tm_laid.declared.objects.DeclaredObject.{DeclaredObject}
use Rattle.concrete_steps.specs.tm_laid.declared.objects.LaidObject.{LaidObject}
use Rattle.concrete_steps.specs.tm_laid.TypeCells.{cells_of_type, abstract_cells_of_type, type_cells, type_depth}
use Rattle.concrete_steps.specs.tm_laid.Objects.{objects_from, cells_from, laid_cell}
use Rattle.concrete_steps.specs.tm_laid.Paths.{paths_of}
use Rattle.concrete_steps.specs.tm_laid.Layable.{IsLayable}
use Rattle.concrete_steps.specs.tm_laid.Layouts.{LaidTree, no_object, object_at, cell_of, summed_types}
use Rattle.concrete_steps.specs.tm_laid.Layouts.{declared_objects, layout_of}
use Rattle.next_action_laws.specs.Laws.{HasLayout}
use Rattle.next_action_laws.proofs.Answered.{layout_is}
use Rattle.next_action_laws.proofs.ObjectPlaces.{count_is}

cells_behind : (file : TypedFileTree) (cell abstract : ℕ) (ds : List DeclaredObject) (o : ℕ)
    → o < length (objects_from file cell abstract ds)
    → (let x : LaidObject = get_or (objects_from file cell abstract ds) o no_object in
    x.first_cell + x.cells ≤ cell + summed_types (cells_of_type file) ds)
cells_behind file cell abstract [] o lt = absurd (omega (arith, lt))
cells_behind file cell abstract (d ∷ ds) zero lt = omega arith
cells_behind file cell abstract (d ∷ ds) (suc o) lt =
    let r = cells_behind file (cell + cells_of_type file d.of.number)
    (abstract + abstract_cells_of_type file d.of.number) ds o (omega (arith, lt)) in
    omega (arith, r)

cells_counted : (file : TypedFileTree) (order : List ℕ) → IsLayable file order
    → (number c a : ℕ) (ds : List DeclaredObject)
    → length (cells_from file number (objects_from file c a ds)) ≡ summed_types (cells_of_type file) ds
cells_counted file order h number c a [] = refl
cells_counted file order h number c a (d ∷ ds) =
    let n : ℕ = d.of.number in
    let os = objects_from file (c + cells_of_type file n) (a + abstract_cells_of_type file n) ds in
    let one = type_cells file (type_depth file) n a in
    let x = length-append (map (laid_cell number) one) (cells_from file (suc number) os) in
    let y = length-map one (laid_cell number) in
    let z = count_is file order h n a in
    let w = cells_counted file order h (suc number) (c + cells_of_type file n) (a + abstract_cells_of_type file n) ds in
    omega (arith, x, y, z, w)

abbrev Among : LaidTree → Type 0
Among l = (o k : ℕ) → o < length l.objects → k < (object_at l o).cells → cell_of l o k < length l.cells

objects_among : (file : TypedFileTree) (order : List ℕ) → IsLayable file order → Among (layout_of file)
unfolding layout_of
objects_among file order h o k lt inside =
    let ds = declared_objects file (paths_of file) in
    let behind = cells_behind file 0 0 ds o lt in
    let counted = cells_counted file order h 0 0 0 ds in
    omega (arith, behind, counted, inside)

pub cells_among : (file : TypedFileTree) (order : List ℕ) (laid : LaidTree) → HasLayout file order laid
    → (o k : ℕ) → o < length laid.objects → k < (object_at laid o).cells → cell_of laid o k < length laid.cells
cells_among file order laid h = subst Among (layout_is file order laid h) (objects_among file order h.layable)
