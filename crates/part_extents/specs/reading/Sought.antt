-- How the code goes down the parts of an object, and what it seeks among them.
use Rattle.std.specs.Prelude.{ℕ, ◌+◌, ◌*◌, ◌&&◌, Bool}
use Rattle.tm_laid.specs.TypeCells.{cells_of_type}
use Rattle.tm_laid.specs.Layouts.{LaidTree}
use Rattle.source_names.specs.declared.steps.Inside.{Inside}
use Rattle.source_names.specs.declared.steps.Down.{Down}
use Rattle.source_names.specs.declared.steps.Down.TheVariants as Downs
use Rattle.part_extents.specs.declared.arrays.Part as Held
use Rattle.part_extents.specs.declared.arrays.Edge.{Edge}
use Rattle.part_extents.specs.declared.arrays.Edge.TheVariants as Edges
use Rattle.part_extents.specs.declared.arrays.Sought.{Sought}
use Rattle.part_extents.specs.Parts.{Part, is_like, begins_at, ends_at}

-- the part to which a step leads
abbrev pub part_in : Down → Inside
part_in (Downs.Element index length inside) = inside
part_in (Downs.Member name inside) = inside

abbrev pub part_of : Held.Part → Part
part_of p = record { number = p.number; begin = p.begin; array = p.array }

-- an element of an array that begins at an offset
abbrev pub element_of : LaidTree → ℕ → ℕ → ℕ → ℕ → Part
element_of laid begin index length number = record {
  number = number;
  begin = begin + index * cells_of_type laid.file number;
  array = record { begin = begin; end = begin + length * cells_of_type laid.file number };
}

abbrev pub is_at : LaidTree → Edge → Part → Bool
is_at laid (Edges.Begins offset) part = begins_at laid offset part
is_at laid (Edges.Ends offset) part = ends_at laid offset part

abbrev pub is_sought : LaidTree → Sought → Part → Bool
is_sought laid s = λ part. is_like laid s.target part && is_at laid s.edge part
