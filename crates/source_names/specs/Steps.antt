-- One step from a part of an object down to a cell: to an element of an array (C99 6.5.2.1), or to a member of a
-- structure (C99 6.5.2.3).
use Rattle.std.specs.Prelude.{ℕ, ◌-◌, ◌/◌, ◌%◌, ◌==◌, cond, nat_le, List, [], ◌∷◌, Option, Some, None, option_map}
use Rattle.tm_typed.specs.declared.types.CType.{CType}
use Rattle.tm_typed.specs.declared.types.CType.TheVariants as Types
use Rattle.tm_typed.specs.declared.scopes.Member.{Member}
use Rattle.tm_typed.specs.Operands.{qualified_as}
use Rattle.tm_typed.specs.Scopes.{or_else, cells_of}
use Rattle.tm_typed.specs.Files.{TypedFileTree}
use Rattle.tm_laid.specs.TypeCells.{entry_of, structure_in}
use Rattle.tm_laid.specs.Layable.{tables_of}
use Rattle.source_names.specs.declared.steps.Inside.{Inside}
use Rattle.source_names.specs.declared.steps.Down.{Down}
use Rattle.source_names.specs.declared.steps.Down.TheVariants as Downs

-- the last of some members that begins at a cell or before it: the cell stands there
abbrev pub last_begun : List Member → ℕ → Option Member
last_begun [] cell = None
last_begun (m ∷ ms) cell = or_else (last_begun ms cell) (cond (nat_le m.part.cell cell) (Some m) None)

-- a member has its own qualifiers and those of its structure
abbrev pub to_member : Inside → Member → Down
to_member inside m =
    Downs.Member m.name
    (record { of = qualified_as m.part.of inside.of; cell = inside.cell - m.part.cell })

-- a number, but 1 in place of 0
abbrev pub at_least_one : ℕ → ℕ
at_least_one n = cond (n == 0) 1 n

-- an element of so many cells, but of one at least, has the qualifiers of its array
abbrev pub to_element : ℕ → ℕ → ℕ → Inside → Down
to_element cells element length inside =
    Downs.Element (inside.cell / at_least_one cells) length
    (record {
      of = record { number = element; constant = inside.of.constant; volatile = inside.of.volatile };
      cell = inside.cell % at_least_one cells;
    })

abbrev pub step_by : TypedFileTree → Inside → CType → Option Down
step_by file inside Types.Void = None
step_by file inside (Types.Int t) = None
step_by file inside (Types.Pointer q) = None
step_by file inside (Types.Array element length) =
    Some (to_element (cells_of (tables_of file) element) element length inside)
step_by file inside (Types.Struct k) = option_map (to_member inside)
    (last_begun (structure_in file k).members inside.cell)

-- the step from a part down to its cell; none where the part is the cell
abbrev pub step_down : TypedFileTree → Inside → Option Down
step_down file inside = step_by file inside (entry_of file inside.of.number).ctype
