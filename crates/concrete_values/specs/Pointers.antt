-- What the operators of C give on pointers. A pointer leads to an object at an offset that counts scalar cells, from 0
-- to the size of the object, one past its last cell included (C99 6.5.6).
use Rattle.std.specs.Prelude.{ℕ, ℤ, pos, negsuc, neg_ℤ, ◌+ℤ◌, ◌*ℤ◌, ◌^◌, ◌==◌, ◌&&◌, int_le, int_lt, nat_le, nat_lt}
use Rattle.std.specs.Prelude.{Bool, true, false, not, if◌then◌else◌, Option, Some, None, is_some, Result, Ok, Err}
use Rattle.std.specs.Prelude.{slice_get}
use Rattle.tm_cint.specs.declared.Class.{Class}
use Rattle.tm_cint.specs.declared.Class.TheVariants as Classes
use Rattle.tm_laid.specs.declared.objects.LaidObject.{LaidObject}
use Rattle.tm_laid.specs.Layouts.{LaidTree, is_alive, stands_at}
use Rattle.concrete_values.specs.declared.values.Pointer.{Pointer}
use Rattle.concrete_values.specs.declared.values.Pointer.TheVariants as Pointers
use Rattle.concrete_values.specs.declared.values.Value.{Value}
use Rattle.concrete_values.specs.declared.values.Value.TheVariants.{Number, Pointer as APointer}
use Rattle.concrete_values.specs.Values.{number_of, pointer_of, truth_value}

-- ## Pointers into an object

abbrev pub cells_of_object : Option LaidObject → Option ℕ
cells_of_object None = None
cells_of_object (Some x) = Some x.cells

-- the size of an object in cells; none where there is no such object, or its number has more than 32 bits
unfoldable pub size_of : LaidTree → ℕ → Option ℕ
size_of laid o = if nat_lt o (2 ^ 32) then cells_of_object (slice_get laid.objects o) else None

abbrev pub placed : Option ℕ → ℕ → ℤ → Option Pointer
placed None o z = None
placed (Some size) o (pos k) = if nat_le k size then Some (Pointers.To o k) else None
placed (Some size) o (negsuc k) = None

-- the pointer to the object at the offset z; there is none beyond the object
unfoldable pub pointer_in : LaidTree → ℕ → ℤ → Option Pointer
pointer_in laid o z = placed (size_of laid o) o z

-- the pointer z cells further; none from the null or the invalid pointer
unfoldable pub shifted : LaidTree → Pointer → ℤ → Option Pointer
shifted laid Pointers.Null z = None
shifted laid Pointers.Invalid z = None
shifted laid (Pointers.To o k) z = pointer_in laid o (pos k +ℤ z)

-- a pointer, or the invalid one where there is none
abbrev pub or_invalid : Option Pointer → Value
or_invalid None = APointer Pointers.Invalid
or_invalid (Some p) = APointer p

-- ## Addresses

-- the address of an object
unfoldable pub base : LaidTree → ℕ → Value
base laid o = or_invalid (pointer_in laid o (pos 0))

-- the address of a part of a structure, which begins at this cell (C99 6.5.2.3)
unfoldable pub part : LaidTree → ℕ → Value → Value
part laid cell a = or_invalid (shifted laid (pointer_of a) (pos cell))

abbrev pub is_subscript : ℕ → ℤ → Bool
is_subscript length i = int_le (pos 0) i && int_lt i (pos length)

-- the address of an element of an array of so many elements, each of so many cells (C99 6.5.2.1)
unfoldable pub element : LaidTree → ℕ → ℕ → Value → Value → Result Value Class
element laid length cells a i =
    if is_subscript length (number_of i)
    then Ok (or_invalid (shifted laid (pointer_of a) (number_of i *ℤ pos cells)))
    else Err Classes.Index

abbrev pub or_class : Class → Option Pointer → Result Value Class
or_class class None = Err class
or_class class (Some p) = Ok (APointer p)

-- so many cells forward, or back
abbrev pub directed : Bool → ℕ → ℤ
directed true cells = neg_ℤ (pos cells)
directed false cells = pos cells

-- a pointer plus an integer, or less it where `minus` is true, times the cells of its target: it stays in the object
-- (C99 6.5.6)
unfoldable pub moved : LaidTree → Bool → ℕ → Value → Value → Result Value Class
moved laid minus cells p i =
    or_class Classes.Pointer (shifted laid (pointer_of p) (number_of i *ℤ directed minus cells))

-- ## Dereferences and comparisons

-- the object is alive on the call path, and the cells of the type stand there
abbrev pub is_object_at : LaidTree → ℕ → ℕ → ℕ → ℕ → Bool
is_object_at laid path o k type =
    is_some (pointer_in laid o (pos k)) && (is_alive laid path o && stands_at laid o k type)

unfoldable pub is_dereferenceable : LaidTree → ℕ → ℕ → Pointer → Bool
is_dereferenceable laid path type Pointers.Null = false
is_dereferenceable laid path type Pointers.Invalid = false
is_dereferenceable laid path type (Pointers.To o k) = is_object_at laid path o k type

-- what a pointer to this type designates on this call path (C99 6.5.3.2)
unfoldable pub dereferenced : LaidTree → ℕ → ℕ → Value → Result Value Class
dereferenced laid path type p =
    if is_dereferenceable laid path type (pointer_of p) then Ok (APointer (pointer_of p)) else Err Classes.Deref

-- an invalid pointer can be neither compared nor tested (C99 6.2.4)
unfoldable pub usable : Value → Result Value Class
usable (Number n) = Ok (Number n)
usable (APointer Pointers.Null) = Ok (APointer Pointers.Null)
usable (APointer Pointers.Invalid) = Err Classes.Pointer
usable (APointer (Pointers.To o k)) = Ok (APointer (Pointers.To o k))

-- both are null, or both lead to one offset in one object (C99 6.5.9); so also of the invalid pointer, which is never
-- compared
abbrev pub is_same_pointer : Pointer → Pointer → Bool
is_same_pointer Pointers.Null Pointers.Null = true
is_same_pointer Pointers.Invalid Pointers.Invalid = true
is_same_pointer (Pointers.To o k) (Pointers.To p l) = (o == p) && (k == l)
is_same_pointer _ _ = false

-- `==`, or `!=` where `equal` is false, of two pointers that are usable
unfoldable pub is_compared : Bool → Value → Value → Bool
is_compared true x y = is_same_pointer (pointer_of x) (pointer_of y)
is_compared false x y = not (is_same_pointer (pointer_of x) (pointer_of y))

abbrev pub compared : Bool → Value → Value → Value
compared equal x y = truth_value (is_compared equal x y)
