-- The actions of a task, and the answers that fit them.
use Rattle.std.specs.Prelude.{ℕ, ℤ, pos, ◌&&◌, int_le, Bool, true, false, if◌then◌else◌, Option, Some, None, is_some}
use Rattle.tm_cint.specs.IntTypes.{is_in}
use Rattle.tm_laid.specs.tm_terms.declared.places.Place.{Place}
use Rattle.tm_laid.specs.tm_typed.declared.types.Scalar.{Scalar}
use Rattle.tm_laid.specs.tm_typed.declared.types.Scalar.TheVariants as Scalars
use Rattle.tm_laid.specs.Layouts.{LaidTree}
use Rattle.concrete_values.specs.declared.values.Pointer.{Pointer}
use Rattle.concrete_values.specs.declared.values.Pointer.TheVariants as Pointers
use Rattle.concrete_values.specs.declared.values.Value.{Value}
use Rattle.concrete_values.specs.declared.values.Value.TheVariants.{Number, Pointer as APointer}
use Rattle.concrete_values.specs.declared.values.Answer.{Answer}
use Rattle.concrete_values.specs.declared.values.Answer.TheVariants.{Given, Done}
use Rattle.concrete_values.specs.declared.actions.Next.{Next}
use Rattle.concrete_values.specs.declared.actions.Next.TheVariants as Acts
use Rattle.concrete_values.specs.Values.{nothing, pointer_of}
use Rattle.concrete_values.specs.Pointers.{pointer_in, size_of}

-- ## Accesses

abbrev pub load_by : Pointer → Scalar → Bool → Place → Next
load_by (Pointers.To o k) s volatile p = Acts.Load o k s volatile p
load_by Pointers.Null s volatile p = Acts.Misfit
load_by Pointers.Invalid s volatile p = Acts.Misfit

-- the load at an address; an address leads to a cell, so that the other cases do not come
unfoldable pub load_at : Value → Scalar → Bool → Place → Next
load_at a s volatile p = load_by (pointer_of a) s volatile p

abbrev pub store_by : Pointer → Scalar → Value → Place → Next
store_by (Pointers.To o k) s v p = Acts.Store o k s v p
store_by Pointers.Null s v p = Acts.Misfit
store_by Pointers.Invalid s v p = Acts.Misfit

-- the store at an address
unfoldable pub store_at : Value → Scalar → Value → Place → Next
store_at a s v p = store_by (pointer_of a) s v p

-- the clearing of an object; the object exists, so that the other case does not come
unfoldable pub clear_at : LaidTree → ℕ → Next
clear_at laid o = if is_some (size_of laid o) then Acts.Clear o else Acts.Misfit

-- ## Which answers fit

-- the pointer is null, invalid, or leads into an object, one past its last cell included
abbrev pub is_pointer : LaidTree → Pointer → Bool
is_pointer laid Pointers.Null = true
is_pointer laid Pointers.Invalid = true
is_pointer laid (Pointers.To o k) = is_some (pointer_in laid o (pos k))

-- the value may stand in a cell of this type
unfoldable pub is_of : LaidTree → Scalar → Value → Bool
is_of laid (Scalars.Int t) (Number n) = is_in t n
is_of laid (Scalars.Int t) (APointer p) = false
is_of laid (Scalars.Pointer class) (Number n) = false
is_of laid (Scalars.Pointer class) (APointer p) = is_pointer laid p

-- the value is a number between these, which are taken in
abbrev pub is_between : ℤ → ℤ → Value → Bool
is_between low high (Number n) = int_le low n && int_le n high
is_between low high (APointer p) = false

abbrev pub value_if : Bool → Value → Option Value
value_if true v = Some v
value_if false v = None

-- what the action takes: a loaded value of the type, a chosen one in its bounds, 0 or 1; or that it is done, which
-- gives nothing
abbrev pub given_to : LaidTree → Next → Value → Option Value
given_to laid (Acts.Load o k s volatile p) v = value_if (is_of laid s v) v
given_to laid (Acts.Chosen low high) v = value_if (is_between low high v) v
given_to laid (Acts.Probe m p) v = value_if (is_between (pos 0) (pos 1) v) v
given_to laid _ v = None

abbrev pub done_to : Next → Option Value
done_to (Acts.Store o k s v p) = Some nothing
done_to (Acts.Clear o) = Some nothing
done_to (Acts.Lock m p) = Some nothing
done_to (Acts.Unlock m p) = Some nothing
done_to Acts.Yield = Some nothing
done_to _ = None

-- the value that an answer hands to an action that it fits
unfoldable pub answer_of : LaidTree → Next → Answer → Option Value
answer_of laid action (Given v) = given_to laid action v
answer_of laid action Done = done_to action
