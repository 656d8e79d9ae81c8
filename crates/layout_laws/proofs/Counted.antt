-- As many cells are laid out as the limits count.
use Rattle.std.proofs.Common.{◌≡◌, refl, ℕ, suc, ◌+◌, false, List, [], ◌∷◌, length, map, arith}
use Rattle.std.proofs.lemmas.List.{length-append, length-map}
use Rattle.cell_layout.specs.tm_typed.Files.{TypedFileTree}
use Rattle.cell_layout.specs.tm_laid.declared.objects.DeclaredObject.{DeclaredObject}
use Rattle.cell_layout.specs.tm_laid.TypeCells.{type_depth, cells_of_type, abstract_cells_of_type}
use Rattle.cell_layout.specs.tm_laid.TypeCells.{type_cells, type_abstracts}
use Rattle.cell_layout.specs.tm_laid.Objects.{objects_from, laid_cell, cells_from, laid_abstract, abstracts_from}
use Rattle.cell_layout.specs.tm_laid.Layouts.{summed_types}
use Rattle.layout_laws.proofs.low.cell_layout.CellPairs.{cells_length, abstracts_length}

pub cells_counted : (file : TypedFileTree) (number c a : ℕ) (ds : List DeclaredObject) → length (cells_from file number (objects_from file c a ds)) ≡ summed_types (cells_of_type file) ds
cells_counted file number c a [] = refl
cells_counted file number c a (d ∷ ds) =
    let n : ℕ = d.of.number in
    let os = objects_from file (c + cells_of_type file n) (a + abstract_cells_of_type file n) ds in
    let one = type_cells file (type_depth file) n a in
    let x = length-append (map (laid_cell number) one) (cells_from file (suc number) os) in
    let y = length-map one (laid_cell number) in
    let z = cells_length file (type_depth file) n a in
    let w = cells_counted file (suc number) (c + cells_of_type file n) (a + abstract_cells_of_type file n) ds in
    omega (arith, x, y, z, w)

pub abstracts_counted : (file : TypedFileTree) (number c a : ℕ) (ds : List DeclaredObject) → length (abstracts_from file number (objects_from file c a ds)) ≡ summed_types (abstract_cells_of_type file) ds
abstracts_counted file number c a [] = refl
abstracts_counted file number c a (d ∷ ds) =
    let n : ℕ = d.of.number in
    let os = objects_from file (c + cells_of_type file n) (a + abstract_cells_of_type file n) ds in
    let one = type_abstracts file (type_depth file) false n 0 in
    let x = length-append (map (laid_abstract number) one) (abstracts_from file (suc number) os) in
    let y = length-map one (laid_abstract number) in
    let z = abstracts_length file (type_depth file) false n 0 in
    let w = abstracts_counted file (suc number) (c + cells_of_type file n) (a + abstract_cells_of_type file n) ds in
    omega (arith, x, y, z, w)
