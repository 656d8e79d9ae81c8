use Rattle.std.proofs.lemmas.Result.{on_ok_weaker}
use Rattle.std.specs.Prelude.{length}
use Rattle.text_choices.specs.Choices.{OfKind}
use Rattle.text_choices.specs.declared.kinds.Kind.TheVariants as Kinds
use Rattle.text_choices.specs.declared.kinds.Choice.{Choice}
use Rattle.operand_orders.specs.Order.{IsOfOrder}
use Rattle.operand_orders.specs.reading.Views.{solved}
use Rattle.open_choices.specs.Choices.{IsOfBody}
use Rattle.open_choices.specs.reading.Found.{IsOfSome, IsFallen, IsPassed, IsBegun}
use Rattle.open_choices.proofs.ChoiceLists.{added_as, added_both}
use Rattle.open_choices.proofs.Whole.{IsOfEdges, AreEnumerations, IsOfAll, all_open}
use Rattle.open_choices.proofs.bodies.add_in_body.Goals as goal

pub returns : goal.returns
returns c =
    let b = solved c.args.view in
    let o = b.origins in
    let below = c.requires.indexed.below in
    let old = c.args.choices.now.items in
    let first = c.add_at_edges.new.choices.items in
    let second = c.add_enumerations.new.choices.items in
    let third = c.add_falls.new.choices.items in
    let fourth = c.add_passings.new.choices.items in
    let fifth = c.add_beginnings.new.choices.items in
    let all = c.add_order.new.choices.items in
    let Edges = λ (x : Choice). IsOfEdges b below x in
    let Enumerations = λ (x : Choice). AreEnumerations b below x in
    let Falls = λ (x : Choice). IsOfSome (IsFallen b) o.falls.items x in
    let Passings = λ (x : Choice). IsOfSome IsPassed o.passings.items x in
    let Beginnings = λ (x : Choice). IsOfSome (IsBegun b) o.lives.items x in
    let Orders = λ (x : Choice). OfKind Kinds.Order (IsOfOrder b) x in
    on_ok_weaker c.add_order.result (λ last.
    added_as (IsOfAll b below) (IsOfBody b) old all (all_open b below)
    (added_both Edges _ old first all c.in_ok-add_at_edges.ensures
    (added_both Enumerations _ first second all c.in_ok-add_enumerations.ensures
    (added_both Falls _ second third all c.in_ok-add_falls.ensures
    (added_both Passings _ third fourth all c.in_ok-add_passings.ensures
    (added_both Beginnings Orders fourth fifth all c.in_ok-add_beginnings.ensures last)))))) c.add_order.ensures
