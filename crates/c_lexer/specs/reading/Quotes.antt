-- The bytes that begin a literal on a skipped line.
use Rattle.std.specs.Prelude.{ℕ, Bool, ◌&&◌, ◌||◌, ◌==◌}

-- a double quote, and a single one where it is paired
abbrev pub is_quote : Bool → ℕ → Bool
is_quote paired b = b == 34 || (paired && b == 39)
