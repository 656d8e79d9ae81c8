-- What the program answers: the joined text of the units that it reads.
use Rattle.std.specs.Prelude.{◌≡◌, ℕ, ◌+◌, List, Option}
use Rattle.std.specs.Io.KnownBytes.{append_known}
use Rattle.tm_terms.specs.Limits.{most_bytes}
use Rattle.program_streams.specs.Streams.{IsRead}
use Rattle.unit_joins.specs.Joins.{IsJoined}

-- a stream has taken the joined text of the units that were read from another: to its end, or past the most bytes that
-- they may have
pub record Joins (left left' taken taken' : Option (List ℕ)) : Type 0 where
  pub units : List ℕ
  pub joined : List ℕ
  pub read : IsRead left left' (most_bytes + 1) units
  pub is : IsJoined units joined
  pub appended : taken' ≡ append_known taken joined
