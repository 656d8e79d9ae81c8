use Rattle.std.proofs.Common.{◌∙◌, ap}
use Rattle.std.specs.List.{list_all}
use Rattle.row_checks.specs.reading.Copies.{is_entry_traced}
use Rattle.row_checks.proofs.Entries.{entries_traced}
use Rattle.row_checks.proofs.traces.is_traced.Goals as goal

pub returns : goal.returns
returns c =
    let a = c.args in
    entries_traced a.traces.now a.front.now c.are_entries_traced.result
    (c.are_entries_traced.ensures ∙ ap (list_all (is_entry_traced a.traces.now)) c.entries.ensures)
