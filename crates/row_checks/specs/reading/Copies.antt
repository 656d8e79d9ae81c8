-- How the code looks at the entries of a front.
use Rattle.std.specs.Prelude.{ℕ, Bool, true, Option, Some, None}
use Rattle.sparse_rows.specs.transfer_rows.StateForms.{Temp}
use Rattle.row_checks.specs.declared.traces.Traces.{Traces}
use Rattle.row_checks.specs.TracedCells.{may_copy}

-- a copy, if there is one, is of a cell that passes the test
abbrev pub is_copy_in : (ℕ → Bool) → Option ℕ → Bool
is_copy_in test None = true
is_copy_in test (Some x) = test x

-- the temporary of the entry is a copy of no cell but those of which it may be one
abbrev pub is_entry_traced : Traces → ℕ × Temp → Bool
is_entry_traced traces e = is_copy_in (may_copy traces e.0) e.1.copy
