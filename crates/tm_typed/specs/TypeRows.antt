-- How the table of types grows: each type has one row, which speaks of earlier rows only.
use Rattle.std.specs.Prelude.{ℕ, ◌*◌, ◌%◌, ◌^◌, min, Bool, true, false, cond, ◌&&◌, ◌==◌, nat_le, nat_lt, List, [], ◌∷◌}
use Rattle.std.specs.Prelude.{◌++◌, length, map, get_or}
use Rattle.std.specs.List.{position_or_len}
use Rattle.tm_typed.specs.declared.types.Qualified.{Qualified}
use Rattle.tm_typed.specs.declared.types.CType.{CType}
use Rattle.tm_typed.specs.declared.types.CType.TheVariants as Types
use Rattle.tm_typed.specs.declared.types.TypeEntry.{TypeEntry}
use Rattle.tm_typed.specs.Types.{no_type, is_same_int, bytes_of}
use Rattle.tm_typed.specs.Scopes.{Scope, entry, cells_of, abstract_cells_of, size_of, tight_size_of, alignment_of}

-- ## Numbers of cells and bytes

-- what stands for a number of cells: a program has at most 65,536, so greater numbers are not told apart
abbrev pub clipped : ℕ → ℕ
clipped n = min 65537 n

-- a number of bytes, as `sizeof` gives it (C99 6.5.3.4, in `unsigned int`)
abbrev pub wrapped : ℕ → ℕ
wrapped n = n % 2 ^ 32

-- ## Equal types

-- a boolean of each kind
abbrev pub is_same_bool : Bool → Bool → Bool
is_same_bool a b = cond a b (cond b false true)

abbrev pub is_same_qualified : Qualified → Qualified → Bool
is_same_qualified q r =
    (q.number == r.number) && (is_same_bool q.constant r.constant && is_same_bool q.volatile r.volatile)

abbrev pub is_same_ctype : CType → CType → Bool
is_same_ctype Types.Void Types.Void = true
is_same_ctype (Types.Int t) (Types.Int u) = is_same_int t u
is_same_ctype (Types.Pointer q) (Types.Pointer r) = is_same_qualified q r
is_same_ctype (Types.Array e n) (Types.Array f m) = (e == f) && (n == m)
is_same_ctype (Types.Struct k) (Types.Struct l) = k == l
is_same_ctype _ _ = false

abbrev pub class_at : List TypeEntry → ℕ → ℕ
class_at types n = (get_or types n no_type).class

-- A type without `const`, and so what all types that are the same but for `const` share: it is made of such types.
abbrev pub apart_from_const : List TypeEntry → CType → CType
apart_from_const types (Types.Pointer q) =
    Types.Pointer (record { number = class_at types q.number; constant = false; volatile = q.volatile })
apart_from_const types (Types.Array e n) = Types.Array (class_at types e) n
apart_from_const types t = t

-- ## Rows

abbrev pub is_pointer_type : CType → Bool
is_pointer_type (Types.Pointer q) = true
is_pointer_type _ = false

-- the cells of a type that is made of others: an array has those of its elements, an integer and a pointer are one cell
abbrev pub cells_in : Scope → CType → ℕ
cells_in scope (Types.Int t) = 1
cells_in scope (Types.Pointer q) = 1
cells_in scope (Types.Array e n) = clipped (n * cells_of scope e)
cells_in scope _ = 0

-- the cells that an analysis tells apart: elements of an array of 65 and more are one
abbrev pub abstract_cells_in : Scope → CType → ℕ
abstract_cells_in scope (Types.Int t) = 1
abstract_cells_in scope (Types.Pointer q) = 1
abstract_cells_in scope (Types.Array e n) =
    cond (nat_le 65 n) (abstract_cells_of scope e) (clipped (n * abstract_cells_of scope e))
abstract_cells_in scope _ = 0

abbrev pub size_in : Scope → CType → ℕ
size_in scope (Types.Int t) = bytes_of t
size_in scope (Types.Pointer q) = 4
size_in scope (Types.Array e n) = wrapped (n * size_of scope e)
size_in scope _ = 0

-- .. where `long long` is aligned to 4
abbrev pub tight_size_in : Scope → CType → ℕ
tight_size_in scope (Types.Int t) = bytes_of t
tight_size_in scope (Types.Pointer q) = 4
tight_size_in scope (Types.Array e n) = wrapped (n * tight_size_of scope e)
tight_size_in scope _ = 0

abbrev pub alignment_in : Scope → CType → ℕ
alignment_in scope (Types.Int t) = bytes_of t
alignment_in scope (Types.Pointer q) = 4
alignment_in scope (Types.Array e n) = alignment_of scope e
alignment_in scope _ = 0

abbrev pub of_pointers_in : Scope → CType → Bool
of_pointers_in scope (Types.Pointer q) = true
of_pointers_in scope (Types.Array e n) = (entry scope e).of_pointers
of_pointers_in scope _ = false

-- the number of a type: where it stands, or else would stand
abbrev pub number_in : Scope → CType → ℕ
number_in scope t = position_or_len (is_same_ctype t) (map (λ e. e.ctype) scope.types)

-- the row of a type that is made of types of the table
abbrev pub row_in : Scope → CType → TypeEntry
row_in scope t = record {
  ctype = t;
  class = number_in scope (apart_from_const scope.types t);
  cells = cells_in scope t;
  abstract_cells = abstract_cells_in scope t;
  size = size_in scope t;
  tight_size = tight_size_in scope t;
  alignment = alignment_in scope t;
  of_pointers = of_pointers_in scope t;
}

-- the types that it is made of stand in the table
abbrev pub is_founded : Scope → CType → Bool
is_founded scope (Types.Pointer q) = nat_lt q.number (length scope.types)
is_founded scope (Types.Array e n) = nat_lt e (length scope.types)
is_founded scope _ = true

-- The scope with a row for the type. One that is made of a type that there is not gets none: no type of a file is.
abbrev pub with_row : Scope → CType → Scope
with_row scope t =
    cond (is_founded scope t && (number_in scope t == length scope.types))
    (record scope { types = scope.types ++ row_in scope t ∷ [] }) scope

-- .. behind the row of the type without `const`, which is its class
abbrev pub with_type : Scope → CType → Scope
with_type scope t = with_row (with_row scope (apart_from_const scope.types t)) t
