-- The classes of errors that an outcome notes.
use Rattle.std.specs.Prelude.{false}
use Rattle.std.specs.Prelude as P
use Rattle.tm_cint.specs.declared.Class.{Class}
use Rattle.tm_cint.specs.declared.Class.TheVariants.{Overflow, Shift, Index, Pointer, Deref, Lock, Race}
use Rattle.tm_cint.specs.declared.Class.TheVariants.{Div as DivByZero}
use Rattle.transfer_int.specs.declared.outcomes.Classes.{Classes}

-- The class is noted; `Race` is none of an outcome.
abbrev pub notes : Classes → Class → P.Bool
notes c Overflow = c.overflow
notes c DivByZero = c.div
notes c Shift = c.shift
notes c Index = c.index
notes c Pointer = c.pointer
notes c Deref = c.deref
notes c Lock = c.lock
notes c Race = false
