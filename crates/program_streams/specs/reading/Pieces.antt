-- Reading a stream piece by piece.
use Rattle.std.specs.Prelude.{◌≡◌, ℕ, List, ◌++◌, Option}
use Rattle.std.specs.Io.KnownBytes.{prepend_known}

-- what was left are the bytes that came behind those that were there, and what is left now
pub record ReadsMore (left left' : Option (List ℕ)) (bytes bytes' : List ℕ) : Type 0 where
  pub piece : List ℕ
  pub behind : bytes' ≡ bytes ++ piece
  pub taken : left ≡ prepend_known piece left'
