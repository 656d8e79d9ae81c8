-- The pointers of C as values.
use Rattle.std.specs.Prelude.{ℕ, ℤ}

-- Null (C99 6.3.2.3), invalid as what an unset pointer holds (C99 6.7.8), or to an object by its number, at an offset
-- that is counted in scalar cells.
pub data Pointer : Type 0 where
  null : Pointer
  invalid : Pointer
  to : ℕ → ℕ → Pointer

-- What a scalar cell holds: a number, or a pointer.
pub data ScalarValue : Type 0 where
  number : ℤ → ScalarValue
  pointer : Pointer → ScalarValue
