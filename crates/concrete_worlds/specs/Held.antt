-- Sets of mutexes as numbers: a mutex m is in the set where 2 ^ m is one of its binary digits.
use Rattle.std.specs.Prelude.{ℕ, ◌==◌, ◌^◌, Bool, List, map}
use Rattle.std.specs.Int.RustNames.{bit_and}
use Rattle.std.specs.List.{range_with_len}

abbrev pub is_in : ℕ → ℕ → Bool
is_in digits m = bit_and digits (2 ^ m) == 2 ^ m

-- for each of the first n mutexes, whether it is in the set
unfoldable pub first_mutexes : ℕ → ℕ → List Bool
first_mutexes n digits = map (is_in digits) (range_with_len 0 n)
