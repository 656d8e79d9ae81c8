-- The mutex that is held at most accesses of an object, the least of several.
use Rattle.std.specs.Prelude.{ℕ, zero, suc, ◌+◌, ◌==◌, nat_lt, cond, List, ◌++◌, length, codes, slice_get}
use Rattle.std.specs.Prelude.{Option, Some, None}
use Rattle.access_groups.specs.declared.object_access.ObjectAccess.{ObjectAccess}
use Rattle.notes_json.specs.Pieces.{number_text}
use Rattle.notes_json.specs.Accesses.{is_member}
use Rattle.program_notes.specs.declared.guards.Guard.{Guard}

-- whether a mutex is held at an access, as a number, and at how many of the first ones
abbrev pub count_held : ℕ → Option ObjectAccess → ℕ
count_held m None = 0
count_held m (Some a) = cond (is_member a.held m) 1 0

abbrev pub held_at : List ObjectAccess → ℕ → ℕ → ℕ
held_at accesses m n = count_held m (slice_get accesses n)

abbrev pub held_below : List ObjectAccess → ℕ → ℕ → ℕ
held_below accesses m zero = 0
held_below accesses m (suc n) = held_below accesses m n + held_at accesses m n

-- at how many it is held
abbrev pub held_count : List ObjectAccess → ℕ → ℕ
held_count accesses m = held_below accesses m (length accesses)

-- the mutex that is held more often
abbrev pub better : Guard → ℕ → ℕ → Guard
better guard m count = cond (nat_lt guard.count count) (record { mutex = m; count = count }) guard

-- the best of the first mutexes, and of all sixteen
abbrev pub guard_below : List ObjectAccess → ℕ → Guard
guard_below accesses zero = record { mutex = 0; count = 0 }
guard_below accesses (suc m) = better (guard_below accesses m) m (held_count accesses m)

unfoldable pub guard_of : List ObjectAccess → Guard
guard_of accesses = guard_below accesses 16

-- ],"mutex":MUTEX,"mutex_count":COUNT
abbrev pub guard_text : Guard → List ℕ
guard_text guard = cond (guard.count == 0) (codes "],\"mutex\":null,\"mutex_count\":0")
    (number_text (codes "],\"mutex\":") guard.mutex ++ number_text (codes ",\"mutex_count\":") guard.count)
