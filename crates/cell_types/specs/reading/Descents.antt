-- How the code finds a cell of a type: down to a part of the type, and its cell.
use Rattle.std.specs.Prelude.{◌≡◌, ℕ, ◌-◌, ◌<◌, ◌≤◌, nat_lt, Bool, true, false, if◌then◌else◌, List, [], ◌∷◌, length}
use Rattle.std.specs.Prelude.{slice_get, Option, Some, None}
use Rattle.tm_typed.specs.declared.types.Scalar.{Scalar}
use Rattle.tm_typed.specs.declared.scopes.Member.{Member}
use Rattle.tm_typed.specs.Files.{TypedFileTree}
use Rattle.tm_laid.specs.TypeCells.{cells_of_type}
use Rattle.tm_laid.specs.Layable.{HasRanks}
use Rattle.tm_laid.specs.Layouts.{is_same_scalar, scalars_of_type}
use Rattle.cell_types.specs.declared.descents.Inside.{Inside}
use Rattle.cell_types.specs.declared.descents.Down.{Down}
use Rattle.cell_types.specs.declared.descents.Down.TheVariants.{Ends, Goes}

-- the member in which a cell stands, where members have so many cells, and the cell there
abbrev pub member_at : (ℕ → ℕ) → List Member → ℕ → Option Inside
member_at count [] cell = None
member_at count (m ∷ ms) cell =
    if nat_lt cell (count m.part.of.number) then Some (record { of = m.part.of.number; cell = cell })
    else member_at count ms (cell - count m.part.of.number)

-- a cell is there and has this type, where one is wanted
abbrev pub is_same_cell : Option Scalar → Option Scalar → Bool
is_same_cell x None = true
is_same_cell None (Some t) = false
is_same_cell (Some s) (Some t) = is_same_scalar s t

-- the scalar of a cell of a part
abbrev pub scalar_in : TypedFileTree → Inside → Option Scalar
scalar_in file part = slice_get (scalars_of_type file part.of) part.cell

-- the part is of a type of so few cells, and not of more types inside one another
pub record IsReached (file : TypedFileTree) (found : Option Scalar) (depth : ℕ) (part : Inside) : Type 0 where
  pub same : scalar_in file part ≡ found
  pub small : cells_of_type file part.of ≤ 65536
  pub deep : (h : HasRanks file) → part.of < length file.types → h.rank part.of < depth

-- what one step down leads to: the scalar, or the same cell of a part of a lower rank
abbrev pub Leads : TypedFileTree → Inside → Down → Type 0
Leads file part (Ends found) = found ≡ scalar_in file part
Leads file part (Goes next) =
    (scalar_in file part ≡ scalar_in file next) × (cells_of_type file next.of ≤ 65536) ×
    ((h : HasRanks file) → h.rank next.of < h.rank part.of)
    × (part.of < length file.types)
