use Rattle.std.proofs.Common.{◌≡◌, drop}
use Rattle.std.specs.List.{list_all}
use Rattle.row_checks.specs.reading.Copies.{is_entry_traced}
use Rattle.row_checks.proofs.traces.are_entries_traced.Given as goal

abbrev pub invariant-loop-temp : goal.invariant-loop-temp
invariant-loop-temp l =
    list_all (is_entry_traced l.traces) (drop l.temp-index l.entries) ≡ list_all (is_entry_traced l.traces) l.entries
