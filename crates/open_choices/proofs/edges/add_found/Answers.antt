use Rattle.std.proofs.lemmas.Result.{on_ok_weaker}
use Rattle.operand_orders.specs.reading.Views.{solved}
use Rattle.open_choices.specs.reading.Found.{kind_of, place_at, Finds}
use Rattle.open_choices.proofs.ChoiceLists.{added_so}
use Rattle.open_choices.proofs.edges.add_found.Goals as goal

pub returns : goal.returns
returns c =
    let b = solved c.args.view in
    on_ok_weaker c.add_if.result (λ h. added_so c.kind_of.result (kind_of c.args.look) c.place_at.result
    (place_at b c.args.edge c.args.look) c.kind_of.ensures c.place_at.ensures c.in_ok-found.found
    (Finds b c.args.edge c.args.state.now c.args.look) c.args.choices.now.items c.add_if.new.choices.items
    c.in_ok-found.ensures h) c.add_if.ensures
