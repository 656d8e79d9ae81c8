-- A toy: sets of numbers below four, rounded to whole pairs, and a program of two tasks over them.
use Rattle.std.specs.Prelude.{ℕ, zero, suc, Bool, false, ◌||◌, IsTrue}

-- whether 0, 1, 2 and 3 are in the set
abbrev pub NumberSet : Type 0
NumberSet = Bool × Bool × Bool × Bool

-- every member of the one set is in the other
abbrev pub IsSubset : NumberSet → NumberSet → Type 0
IsSubset s t =
    (IsTrue s.0 → IsTrue t.0) × (IsTrue s.1 → IsTrue t.1) × (IsTrue s.2 → IsTrue t.2) × (IsTrue s.3 → IsTrue t.3)

-- the members of both
abbrev pub union : NumberSet → NumberSet → NumberSet
union s t = (s.0 || t.0, s.1 || t.1, s.2 || t.2, s.3 || t.3)

-- 0 and 1 come together, and so do 2 and 3
abbrev pub whole_pairs : NumberSet → NumberSet
whole_pairs s = (s.0 || s.1, s.0 || s.1, s.2 || s.3, s.2 || s.3)

abbrev pub empty_set : NumberSet
empty_set = (false, false, false, false)

-- task 0 adds 0 where the program says so, task 1 adds 2 where it sees 0
abbrev pub added_numbers : Bool → ℕ → NumberSet → NumberSet
added_numbers first zero s = (first, false, false, false)
added_numbers first (suc task) s = (false, false, s.0, false)
