-- Objects get their cells one after the other.
use Rattle.std.proofs.Common.{◌≡◌, refl, ap, sym, subst, ◌∙◌, ℕ, suc, ◌+◌, ◌≤◌, List, [], ◌∷◌, ◌++◌, length, map, drop, append_assoc, append-nil, false, arith}
use Rattle.std.specs.Prelude.{All}
use Rattle.std.proofs.lemmas.List.{drop_all}
use Rattle.std.proofs.lemmas.List.Elements.{All-nil, All-push}
use Rattle.tm_typed.specs.Scopes.{cells_of, abstract_cells_of}
use Rattle.tm_typed.specs.Files.{TypedFileTree}
use Rattle.tm_laid.specs.declared.objects.DeclaredObject.{DeclaredObject}
use Rattle.tm_laid.specs.declared.objects.LaidObject.{LaidObject}
use Rattle.tm_laid.specs.TypeCells.{cells_of_type, abstract_cells_of_type, type_cells, type_abstracts, type_depth}
use Rattle.tm_laid.specs.Objects.{objects_from, cells_from, abstracts_from, laid_cell, laid_abstract}
use Rattle.tm_laid.specs.Layouts.{summed_types}
use Rattle.tm_laid.specs.Layable.{IsLayable, tables_of}
use Rattle.tm_laid.proofs.Columns.{cells_counted, abstracts_counted}
use Rattle.cell_layout.specs.declared.cells.Cells.{Cells}
use Rattle.cell_layout.specs.reading.Parts.{IsLaidOut}
use Rattle.cell_layout.specs.reading.Placing.{IsSmallObject, HasObjects, AreCells}

-- ## Places

-- the objects so far, and where the next one's cells begin
pub record ArePlaced (file : TypedFileTree) (ds : List DeclaredObject) (i : ℕ) (os : List LaidObject) (cell abstract_cell : ℕ) : Type 0 where
  pub whole : os ++ objects_from file cell abstract_cell (drop i ds) ≡ objects_from file 0 0 ds
  pub small : All (IsSmallObject file) os
  pub cells : cell + summed_types (cells_of_type file) (drop i ds) ≤ 65536
  pub abstract_cells : abstract_cell + summed_types (abstract_cells_of_type file) (drop i ds) ≤ 65536

pub placed_none : (file : TypedFileTree) (ds : List DeclaredObject) → summed_types (cells_of_type file) ds ≤ 65536 → summed_types (abstract_cells_of_type file) ds ≤ 65536 → ArePlaced file ds 0 [] 0 0
placed_none file ds a b = record { whole = refl; small = All-nil (IsSmallObject file); cells = omega (arith, a); abstract_cells = omega (arith, b) }

pub placed_room : (file : TypedFileTree) (order : List ℕ) → IsLayable file order → (ds : List DeclaredObject) (i : ℕ) (d : DeclaredObject) (os : List LaidObject) (cell abstract_cell c a : ℕ)
    → drop i ds ≡ d ∷ drop (i + 1) ds → c ≡ cells_of (tables_of file) d.of.number → a ≡ abstract_cells_of (tables_of file) d.of.number → ArePlaced file ds i os cell abstract_cell
    → (c ≡ cells_of_type file d.of.number) × (a ≡ abstract_cells_of_type file d.of.number) × (cell + c ≤ 65536) × (abstract_cell + a ≤ 65536)
placed_room file order h ds i d os cell abstract_cell c a more x y before =
    let s = ap (summed_types (cells_of_type file)) more in
    let t = ap (summed_types (abstract_cells_of_type file)) more in
    let u = cells_counted file order h d.of.number in
    let v = abstracts_counted file order h d.of.number in
    let p = before.cells in
    let q = before.abstract_cells in
    (omega (arith, x, s, u, p), omega (arith, y, t, v, q), omega (arith, x, s, u, p), omega (arith, y, t, v, q))

object : DeclaredObject → ℕ → ℕ → ℕ → ℕ → LaidObject
object d cell c abstract_cell a =
    record { name = d.name; place = d.place; of = d.of; owner = d.owner; first_cell = cell; cells = c; first_abstract = abstract_cell; abstract_cells = a }

pub placed_more : (file : TypedFileTree) (ds : List DeclaredObject) (i : ℕ) (d : DeclaredObject) (os new : List LaidObject) (cell abstract_cell c a : ℕ)
    → drop i ds ≡ d ∷ drop (i + 1) ds → c ≡ cells_of_type file d.of.number → a ≡ abstract_cells_of_type file d.of.number
    → new ≡ os ++ record { name = d.name; place = d.place; of = d.of; owner = d.owner; first_cell = cell; cells = c; first_abstract = abstract_cell; abstract_cells = a } ∷ []
    → ArePlaced file ds i os cell abstract_cell → ArePlaced file ds (i + 1) new (cell + c) (abstract_cell + a)
unfolding object
placed_more file ds i d os new cell abstract_cell c a more x y e before = record {
  whole =
      ap (λ xs. xs ++ objects_from file (cell + c) (abstract_cell + a) (drop (i + 1) ds)) e
      ∙ append_assoc os (object d cell c abstract_cell a ∷ []) (objects_from file (cell + c) (abstract_cell + a) (drop (i + 1) ds))
      ∙ ap (λ k. os ++ object d cell k abstract_cell a ∷ objects_from file (cell + k) (abstract_cell + a) (drop (i + 1) ds)) x
      ∙ ap (λ k. os ++ object d cell (cells_of_type file d.of.number) abstract_cell k ∷ objects_from file (cell + cells_of_type file d.of.number) (abstract_cell + k) (drop (i + 1) ds)) y
      ∙ ap (λ xs. os ++ objects_from file cell abstract_cell xs) (sym more) ∙ before.whole;
  small = (let P : List LaidObject → Type 0 = λ xs. All (IsSmallObject file) xs in
      subst P (sym e) (All-push (IsSmallObject file) os (object d cell c abstract_cell a) before.small
      (record {
        cells = (let s = ap (summed_types (cells_of_type file)) more in let p = before.cells in omega (arith, s, p));
        abstract_cells = (let t = ap (summed_types (abstract_cells_of_type file)) more in let q = before.abstract_cells in omega (arith, t, q));
      })));
  cells = (let s = ap (summed_types (cells_of_type file)) more in let p = before.cells in omega (arith, x, s, p));
  abstract_cells = (let t = ap (summed_types (abstract_cells_of_type file)) more in let q = before.abstract_cells in omega (arith, y, t, q));
}

pub placed_all : (file : TypedFileTree) (ds : List DeclaredObject) (i : ℕ) (os : List LaidObject) (cell abstract_cell : ℕ) → length ds ≤ i → ArePlaced file ds i os cell abstract_cell → HasObjects file ds os
placed_all file ds i os cell abstract_cell le done = record {
  objects = sym (append-nil os) ∙ ap (λ xs. os ++ objects_from file cell abstract_cell xs) (sym (drop_all i ds le)) ∙ done.whole;
  small = done.small;
}

-- ## Cells

-- the cells of the objects so far
pub record AreCellsTo (file : TypedFileTree) (os : List LaidObject) (i : ℕ) (c : Cells) (number : ℕ) : Type 0 where
  pub counted : number ≡ i
  pub cells : c.cells.items ++ cells_from file number (drop i os) ≡ cells_from file 0 os
  pub abstracts : c.abstract_cells.items ++ abstracts_from file number (drop i os) ≡ abstracts_from file 0 os

pub cells_none : (file : TypedFileTree) (os : List LaidObject) (c : Cells) → c.cells.items ≡ [] → c.abstract_cells.items ≡ [] → AreCellsTo file os 0 c 0
cells_none file os c a b = record {
  counted = refl;
  cells = ap (λ xs. xs ++ cells_from file 0 os) a;
  abstracts = ap (λ xs. xs ++ abstracts_from file 0 os) b;
}

pub cells_more : (file : TypedFileTree) (os : List LaidObject) (i : ℕ) (o : LaidObject) (old new : Cells) (number next : ℕ) → drop i os ≡ o ∷ drop (i + 1) os
    → IsLaidOut file number o.of.number o.first_abstract old new → next ≡ number + 1 → AreCellsTo file os i old number → AreCellsTo file os (i + 1) new next
cells_more file os i o old new number next more l e before = record {
  counted = (let a = before.counted in omega (arith, a, e));
  cells =
      ap (λ xs. xs ++ cells_from file next (drop (i + 1) os)) l.cells
      ∙ append_assoc old.cells.items (map (laid_cell number) (type_cells file (type_depth file) o.of.number o.first_abstract)) (cells_from file next (drop (i + 1) os))
      ∙ ap (λ k. old.cells.items ++ (map (laid_cell number) (type_cells file (type_depth file) o.of.number o.first_abstract) ++ cells_from file k (drop (i + 1) os))) behind
      ∙ ap (λ xs. old.cells.items ++ cells_from file number xs) (sym more) ∙ before.cells;
  abstracts =
      ap (λ xs. xs ++ abstracts_from file next (drop (i + 1) os)) l.abstracts
      ∙ append_assoc old.abstract_cells.items (map (laid_abstract number) (type_abstracts file (type_depth file) false o.of.number 0)) (abstracts_from file next (drop (i + 1) os))
      ∙ ap (λ k. old.abstract_cells.items ++ (map (laid_abstract number) (type_abstracts file (type_depth file) false o.of.number 0) ++ abstracts_from file k (drop (i + 1) os))) behind
      ∙ ap (λ xs. old.abstract_cells.items ++ abstracts_from file number xs) (sym more) ∙ before.abstracts;
}
  where
    behind : next ≡ suc number
    behind = omega (arith, e)

pub cells_all : (file : TypedFileTree) (os : List LaidObject) (i : ℕ) (c : Cells) (number : ℕ) → length os ≤ i → AreCellsTo file os i c number → AreCells file os c
cells_all file os i c number le done = record {
  cells = sym (append-nil c.cells.items) ∙ ap (λ xs. c.cells.items ++ cells_from file number xs) (sym (drop_all i os le)) ∙ done.cells;
  abstracts = sym (append-nil c.abstract_cells.items) ∙ ap (λ xs. c.abstract_cells.items ++ abstracts_from file number xs) (sym (drop_all i os le)) ∙ done.abstracts;
}
