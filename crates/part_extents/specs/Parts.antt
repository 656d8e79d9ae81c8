-- The parts of an object, from the whole down to a cell (C99 6.2.5p20): the type of a cell, whether it is declared
-- `const` or of an enumeration, and the arrays into which pointers point.
use Rattle.std.specs.Prelude.{ℕ, zero, suc, ◌+◌, ◌*◌, ◌-◌, Bool, false, ◌&&◌, ◌==◌, cond, nat_lt}
use Rattle.std.specs.Prelude.{Option, Some, None}
use Rattle.tm_typed.specs.declared.types.CType.{CType}
use Rattle.tm_typed.specs.declared.types.Qualified.{Qualified}
use Rattle.tm_typed.specs.Types.{is_enumerated, enumeration_number}
use Rattle.tm_laid.specs.TypeCells.{entry_of, cells_of_type}
use Rattle.tm_laid.specs.Layouts.{LaidTree, object_at, abstract_at}
use Rattle.source_names.specs.declared.steps.Inside.{Inside}
use Rattle.source_names.specs.declared.steps.Down.{Down}
use Rattle.source_names.specs.declared.steps.Down.TheVariants as Downs
use Rattle.source_names.specs.Steps.{step_down}
use Rattle.part_extents.specs.declared.extents.Extent.{Extent}

-- types are made of others at most so deep
abbrev pub deepest : ℕ
deepest = 1024

-- the number of a type, enumerations being `int` as they are here
abbrev pub unenumerated : ℕ → ℕ
unenumerated n = cond (is_enumerated n) (enumeration_number false) n

-- ## Cells

module _ (laid : LaidTree) where
  abbrev pub in_part : {A : Type 0} → (Inside → A) → A → Option Down → A
  in_part below here None = here
  in_part below here (Some (Downs.Element index length inside)) = below inside
  in_part below here (Some (Downs.Member name inside)) = below inside

  -- the smallest part in which a cell stands, down to which there are at most so many steps
  unfoldable pub innermost_within : ℕ → Inside → Inside
  innermost_within zero inside = inside
  innermost_within (suc depth) inside = in_part (innermost_within depth) inside (step_down laid.file inside)

  abbrev pub innermost : Inside → Inside
  innermost inside = innermost_within deepest inside

  -- the type of the scalar in a part
  abbrev pub cell_type : Inside → CType
  cell_type inside = (let i = innermost inside in (let q = i.of in (entry_of laid.file q.number).ctype))

  -- the scalar is declared `const`, or what it is a part of: the qualifiers go down with the steps (C99 6.5.2.3p3)
  abbrev pub is_constant : Inside → Bool
  is_constant inside = (let i = innermost inside in (let q = i.of in q.constant))

  -- the scalar is of an enumeration that compilers may make unsigned (C99 6.7.2.2p4)
  abbrev pub is_of_enumeration : Inside → Bool
  is_of_enumeration inside = (let i = innermost inside in (let q = i.of in is_enumerated q.number))

  -- an abstract cell in its object
  abbrev pub inside_of : ℕ → Inside
  inside_of cell =
      let a = abstract_at laid cell in
      record { of = (object_at laid a.object).of; cell = a.offset }

-- ## Arrays

-- a part of an object: the number of its type, the offset at which it begins, and the array of which it is an element;
-- what is an element of none is an array of one (C99 6.5.6p7)
pub record Part : Type 0 where
  pub number : ℕ
  pub begin : ℕ
  pub array : Extent

module _ (laid : LaidTree) where
  abbrev pub alone : ℕ → ℕ → Part
  alone number begin = record {
    number = number;
    begin = begin;
    array = record { begin = begin; end = begin + cells_of_type laid.file number };
  }

  abbrev pub whole : ℕ → Part
  whole object = (let o = object_at laid object in (let q = o.of in alone q.number 0))

  abbrev pub without_qualifiers : ℕ → Qualified
  without_qualifiers number = record { number = number; constant = false; volatile = false }

  -- the part of a part in which the cell at an offset of the object stands
  abbrev pub below : Part → ℕ → Option Down → Option Part
  below part offset None = None
  below part offset (Some (Downs.Element index length inside)) = (let q = inside.of in Some (record {
    number = q.number;
    begin = part.begin + index * cells_of_type laid.file q.number;
    array = record { begin = part.begin; end = part.begin + length * cells_of_type laid.file q.number };
  }))
  below part offset (Some (Downs.Member name inside)) = (let q = inside.of in Some (alone q.number (offset - inside.cell)))

  abbrev pub next_part : Part → ℕ → Option Part
  next_part part offset = below part offset
      (step_down laid.file (record { of = without_qualifiers part.number; cell = offset - part.begin }))

  -- a part has the type, but for `const`
  abbrev pub is_like : ℕ → Part → Bool
  is_like target part = (entry_of laid.file part.number).class == (entry_of laid.file target).class

  abbrev pub begins_at : ℕ → Part → Bool
  begins_at offset part = part.begin == offset

  abbrev pub ends_at : ℕ → Part → Bool
  ends_at offset part = part.begin + cells_of_type laid.file part.number == offset

  abbrev pub or_below : (Part → Option Extent) → Option Part → Option Extent
  or_below find None = None
  or_below find (Some part) = find part

  -- of the parts in which the cell at an offset stands, from the one on, the array of the first that is like this; there
  -- are at most so many
  unfoldable pub array_within : ℕ → (Part → Bool) → ℕ → Part → Option Extent
  array_within zero is offset part = None
  array_within (suc depth) is offset part =
      cond (is part) (Some part.array) (or_below (array_within depth is offset) (next_part part offset))

  abbrev pub array_with : ℕ → (Part → Bool) → ℕ → Option Extent
  array_with object is offset =
      cond (nat_lt offset (object_at laid object).cells) (array_within deepest is offset (whole object)) None

  -- the array whose element of a type begins at an offset
  abbrev pub array_begun : ℕ → ℕ → ℕ → Option Extent
  array_begun object target offset =
      array_with object (λ part. is_like target part && begins_at offset part) offset

  -- the one whose element ends at an offset, that is behind the cell before it
  abbrev pub array_ended : ℕ → ℕ → ℕ → Option Extent
  array_ended object target zero = None
  array_ended object target (suc offset) =
      array_with object (λ part. is_like target part && ends_at (suc offset) part) offset

  abbrev pub or_else_extent : Option Extent → Option Extent → Option Extent
  or_else_extent None other = other
  or_else_extent (Some extent) other = Some extent

  -- The array into which a pointer to a type at an offset of an object points (C99 6.5.6p8): the one whose element
  -- begins there, or else the one whose element ends there; none where there is neither.
  abbrev pub array_at : ℕ → ℕ → ℕ → Option Extent
  array_at object target offset =
      or_else_extent (array_begun object target offset) (array_ended object target offset)
