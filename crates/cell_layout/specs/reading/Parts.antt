-- Parts of objects that wait to be laid out.
use Rattle.std.specs.Prelude.{◌≡◌, ℕ, zero, suc, ◌+◌, ◌*◌, ◌≤◌, Bool, false, cond, ◌&&◌, ◌||◌, not, List, [], ◌∷◌, ◌++◌}
use Rattle.std.specs.Prelude.{map, reverse, All, get_or}
use Rattle.tm_typed.specs.declared.types.CType.{CType}
use Rattle.tm_typed.specs.declared.types.CType.TheVariants as Types
use Rattle.tm_typed.specs.declared.scopes.Member.{Member}
use Rattle.tm_typed.specs.Files.{TypedFileTree}
use Rattle.tm_laid.specs.declared.cells.LaidCell.{LaidCell}
use Rattle.tm_laid.specs.declared.cells.AbstractCell.{AbstractCell}
use Rattle.tm_laid.specs.TypeCells.{entry_of, structure_in, is_smashed, cells_of_type, abstract_cells_of_type}
use Rattle.tm_laid.specs.TypeCells.{type_cells, type_abstracts, type_depth}
use Rattle.tm_laid.specs.Objects.{laid_cell, laid_abstract}
use Rattle.cell_layout.specs.declared.cells.TypePart.{TypePart}
use Rattle.cell_layout.specs.declared.cells.Cells.{Cells}
use Rattle.tm_typed.specs.declared.types.Scalar.{Scalar}

-- ## What a part of an object has

abbrev pub part_cells : TypedFileTree → ℕ → TypePart → List LaidCell
part_cells file object p = map (laid_cell object) (type_cells file (type_depth file) p.number p.abstract_cell)

-- a part that is not the first of its kind has no abstract cells of its own
abbrev pub part_abstracts : TypedFileTree → ℕ → TypePart → List AbstractCell
part_abstracts file object p = cond p.leading (map (laid_abstract object)
    (type_abstracts file (type_depth file) p.smashed p.number p.offset)) []

abbrev pub parts_cells : TypedFileTree → ℕ → List TypePart → List LaidCell
parts_cells file object [] = []
parts_cells file object (p ∷ ps) = part_cells file object p ++ parts_cells file object ps

abbrev pub parts_abstracts : TypedFileTree → ℕ → List TypePart → List AbstractCell
parts_abstracts file object [] = []
parts_abstracts file object (p ∷ ps) = part_abstracts file object p ++ parts_abstracts file object ps

-- ## Of what it is made

-- so many elements, each a step behind the one before it, the first leading or not, and the others
abbrev pub element_parts : ℕ → Bool → Bool → Bool → ℕ → ℕ → ℕ → ℕ → ℕ → List TypePart
element_parts element smashed leading later cells abstracts zero offset start = []
element_parts element smashed leading later cells abstracts (suc n) offset start =
    record { number = element; offset = offset; abstract_cell = start; smashed = smashed; leading = leading }
    ∷ element_parts element smashed later later cells abstracts n (offset + cells) (start + abstracts)

abbrev pub member_parts : TypedFileTree → Bool → Bool → List Member → ℕ → ℕ → List TypePart
member_parts file smashed leading [] offset start = []
member_parts file smashed leading (m ∷ ms) offset start =
    record { number = m.part.of.number; offset = offset; abstract_cell = start; smashed = smashed; leading = leading }
    ∷ member_parts file smashed leading ms (offset + cells_of_type file m.part.of.number)
    (start + abstract_cells_of_type file m.part.of.number)

-- the parts of an array or a structure
abbrev pub inner_parts : TypedFileTree → TypePart → CType → List TypePart
inner_parts file p (Types.Array element n) =
    element_parts element (p.smashed || is_smashed n) p.leading (p.leading && not (is_smashed n))
    (cells_of_type file element)
    (cond (is_smashed n) 0 (abstract_cells_of_type file element)) n p.offset p.abstract_cell
inner_parts file p (Types.Struct k) = member_parts file p.smashed p.leading
    (structure_in file k).members p.offset p.abstract_cell
inner_parts file p _ = []

-- ## How much is left

abbrev pub summed_nodes : (ℕ → ℕ) → List Member → ℕ
summed_nodes nodes [] = 0
summed_nodes nodes (m ∷ ms) = nodes m.part.of.number + summed_nodes nodes ms

abbrev pub nodes_by : TypedFileTree → (ℕ → ℕ) → CType → ℕ
nodes_by file nodes (Types.Array element n) = suc (n * nodes element)
nodes_by file nodes (Types.Struct k) = suc (summed_nodes nodes (structure_in file k).members)
nodes_by file nodes _ = 1

-- a type and all types at its parts
unfoldable pub type_nodes : TypedFileTree → ℕ → ℕ → ℕ
type_nodes file zero n = 1
type_nodes file (suc depth) n = nodes_by file (type_nodes file depth) (entry_of file n).ctype

abbrev pub nodes_of_type : TypedFileTree → ℕ → ℕ
nodes_of_type file n = type_nodes file (type_depth file) n

abbrev pub parts_nodes : TypedFileTree → List TypePart → ℕ
parts_nodes file [] = 0
parts_nodes file (p ∷ ps) = nodes_of_type file p.number + parts_nodes file ps

-- ## The work

-- a part ends within the limits
pub record IsSmall (file : TypedFileTree) (p : TypePart) : Type 0 where
  pub cells : p.offset + cells_of_type file p.number ≤ 65536
  pub abstract_cells : p.abstract_cell + abstract_cells_of_type file p.number ≤ 65536

-- A part is laid out so far that the others that wait have the rest, the last of which comes first.
pub record HasLaid (file : TypedFileTree) (object : ℕ) (p : TypePart) (old new : Cells)
    (waited waiting : List TypePart) : Type 0 where
  pub cells : new.cells.items ++ parts_cells file object (reverse waiting) ≡ old.cells.items ++
      (part_cells file object p ++ parts_cells file object (reverse waited))
  pub abstracts : new.abstract_cells.items ++ parts_abstracts file object (reverse waiting) ≡ old.abstract_cells.items
      ++ (part_abstracts file object p ++ parts_abstracts file object (reverse waited))
  pub small : All (IsSmall file) (reverse waiting)
  pub nodes : suc (parts_nodes file (reverse waiting)) ≤ nodes_of_type file p.number + parts_nodes file (reverse waited)

-- a scalar cell stands behind the others, with an abstract cell of its own where the part is leading
pub record HasScalar (object : ℕ) (p : TypePart) (scalar : Scalar) (old new : Cells) : Type 0 where
  pub cells : new.cells.items ≡ old.cells.items ++ record {
    object = object;
    scalar = scalar;
    abstract_cell =
        p.abstract_cell;
  } ∷ []
  pub abstracts : new.abstract_cells.items ≡ old.abstract_cells.items ++ cond p.leading
      (record { object = object; offset = p.offset; scalar = scalar; smashed = p.smashed } ∷ []) []

-- an object is laid out
pub record IsLaidOut (file : TypedFileTree) (object number first : ℕ) (old new : Cells) : Type 0 where
  pub cells : new.cells.items ≡ old.cells.items ++ map (laid_cell object)
      (type_cells file (type_depth file) number first)
  pub abstracts : new.abstract_cells.items ≡ old.abstract_cells.items ++ map (laid_abstract object)
      (type_abstracts file (type_depth file) false number 0)

-- ## Types around others that add nothing

-- m has the cells of n, and is made of no more types
pub record IsSameType (file : TypedFileTree) (m n : ℕ) : Type 0 where
  pub cells : (start : ℕ) → type_cells file (type_depth file) m start ≡ type_cells file (type_depth file) n start
  pub abstracts : (smashed : Bool) (start : ℕ)
      → type_abstracts file (type_depth file) smashed m start ≡ type_abstracts file (type_depth file) smashed n start
  pub count : cells_of_type file m ≡ cells_of_type file n
  pub abstract_count : abstract_cells_of_type file m ≡ abstract_cells_of_type file n
  pub nodes : nodes_of_type file m ≤ nodes_of_type file n

-- for each type one that has its cells
abbrev pub AreCores : TypedFileTree → List ℕ → Type 0
AreCores file cores = (n : ℕ) → IsSameType file (get_or cores n n) n
