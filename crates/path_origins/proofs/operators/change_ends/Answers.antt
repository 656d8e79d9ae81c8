use Rattle.std.proofs.Common.{is_some, ap, ◌∙◌}
use Rattle.std.proofs.lemmas.Result.{on_ok_weaker}
use Rattle.body_builder.specs.lowering.Table.{conversion}
use Rattle.path_origins.specs.declared.origins.Form.TheVariants as Forms
use Rattle.path_origins.specs.Noted.{one, one_if}
use Rattle.path_origins.specs.Shown.{shown}
use Rattle.path_origins.specs.reading.Walks.{stored_from}
use Rattle.path_origins.proofs.Laws.{four_behind}
use Rattle.path_origins.proofs.Values.{as_one}
use Rattle.path_origins.proofs.operators.change_ends.Goals as goal

pub returns : goal.returns
returns c =
    let x = c.args.change in
    let loaded = is_some (conversion x.cell x.of) in
    let back = is_some (conversion x.of x.cell) in
    let all = four_behind (shown c.args.to.now) (shown c.note_if.new.to) (shown c.note_if-2.new.to)
    (shown c.note.new.to) (shown c.note_if-3.new.to) (one_if loaded x.load_place Forms.Conversion)
    (one_if c.args.is_converted c.args.operand_place Forms.Conversion) (one x.place (Forms.Binary x.is_either))
    (one_if back x.place Forms.Conversion)
    (as_one x.load_place Forms.Conversion c.is_conversion-loaded.result loaded (shown c.args.to.now)
    (shown c.note_if.new.to) c.is_conversion-loaded.ensures c.in_ok-note_if.ensures)
    c.in_ok-note_if-2.ensures c.in_ok-note.ensures
    (as_one x.place Forms.Conversion c.is_conversion-back.result back (shown c.note.new.to)
    (shown c.note_if-3.new.to) c.is_conversion-back.ensures c.in_ok-note_if-3.ensures) in
    on_ok_weaker c.note_store.result (λ e. e ∙ ap (stored_from c.args.pending x.place) all) c.note_store.ensures
