-- Streams that are read and written whole.
use Rattle.std.specs.Prelude.{◌≡◌, ℕ, ◌<◌, ◌≤◌, ◌⊎◌, List, ◌++◌, length, Option, IfSome}
use Rattle.std.specs.Io.KnownBytes.{IsAtEnd, append_known, prepend_known}

-- these bytes were read from a stream, to its end, or until they are so many
pub record IsRead (left left' : Option (List ℕ)) (most : ℕ) (bytes : List ℕ) : Type 0 where
  pub taken : left ≡ prepend_known bytes left'
  pub whole : IsAtEnd left' ⊎ (most ≤ length bytes)

-- a stream was read to its end, or past so many bytes
abbrev pub IsReadOut : ℕ → Option (List ℕ) → Option (List ℕ) → Type 0
IsReadOut most left left' = IsAtEnd left' ⊎ IfSome left (λ known. most < length known)

-- a stream has taken a front of a text
pub record TakesFrontOf (text : List ℕ) (taken taken' : Option (List ℕ)) : Type 0 where
  pub front : List ℕ
  pub rest : List ℕ
  pub split : text ≡ front ++ rest
  pub appended : taken' ≡ append_known taken front
