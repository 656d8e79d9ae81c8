-- What traces say of one cell.
use Rattle.std.specs.Prelude.{ℕ, Bool, slice_index_or}
use Rattle.cell_placings.specs.CellLists.{is_in, cells_at}
use Rattle.row_checks.specs.declared.traces.Traces.{Traces}

-- the temporary may be a copy of the cell
abbrev pub may_copy : Traces → ℕ → ℕ → Bool
may_copy traces t x = is_in (cells_at traces.copies.items t) x

-- the cell may be fresh
abbrev pub may_be_fresh : Traces → ℕ → Bool
may_be_fresh traces x = is_in traces.fresh x

-- the mutexes that may be pending at the cell, as bits
abbrev pub may_pend : Traces → ℕ → ℕ
may_pend traces x = slice_index_or traces.pending.items x 0
