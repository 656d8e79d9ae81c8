use Rattle.std.proofs.Common.{◌≡◌, ◌∙◌, ap, sym, Some, None}
use Rattle.std.proofs.lemmas.List.{get_or_default}
use Rattle.program_reports.specs.post_recheck.table_covers.Solutions.{at}
use Rattle.value_ranges.proofs.Noting.{node_noted}
use Rattle.value_ranges.proofs.notes.note_node.Goals as goal

pub returns-in-Some : goal.returns-in-Some
returns-in-Some c =
    let table = c.args.table.now in
    let node = c.args.node in
    let there : at table node ≡ c.index-table-node.result =
    get_or_default table node None c.index-table-node.result c.if-node-table.true ∙ sym c.index-table-node.is in
    node_noted c.args.cells.now table node c.state.result.now (there ∙ c.in-Some.is ∙ ap Some (sym c.state.ensures))
    c.args.noted.now.items c.note_state.new.noted.items c.note_state.ensures
