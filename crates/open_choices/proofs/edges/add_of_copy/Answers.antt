use Rattle.std.proofs.Common.{◌≡◌, sym, ◌∙◌, Option, Some, None}
use Rattle.std.proofs.lemmas.Result.{on_ok_weaker}
use Rattle.post_recheck.specs.transfer_rows.StateForms.{State}
use Rattle.operand_orders.specs.reading.Views.{solved}
use Rattle.open_choices.specs.reading.Found.{IsFound, IsOfCopy}
use Rattle.open_choices.proofs.ChoiceLists.{added_as, added_nothing}
use Rattle.open_choices.proofs.Copies.{copy_open}
use Rattle.open_choices.proofs.edges.add_of_copy.Goals as goal

pub add_found-requires-clause-counted : goal.add_found-requires-clause-counted
add_found-requires-clause-counted c = c.requires.counted c.in-Some.state.now (sym c.in-Some.ensures)

pub returns-in-Some : goal.returns-in-Some
returns-in-Some c =
    let b = solved c.args.view in
    let s = c.in-Some.state.now in
    on_ok_weaker c.add_found.result (λ h. added_as (IsFound b c.args.edge s c.args.look)
    (IsOfCopy b c.args.edge c.args.look c.args.copy) c.args.choices.now.items c.add_found.new.choices.items
    (copy_open b c.args.edge c.args.look c.args.copy s (sym c.in-Some.ensures)) h) c.add_found.ensures

no_state : (s : State) → ◌≡◌ {A = Option State} None (Some s) → ⊥
no_state s e = cc

pub returns-in-None : goal.returns-in-None
returns-in-None c =
    let b = solved c.args.view in
    added_nothing (IsOfCopy b c.args.edge c.args.look c.args.copy) (IsOfCopy b c.args.edge c.args.look c.args.copy)
    c.args.choices.now.items (λ x h. no_state h.state (c.in-None.ensures ∙ h.is))
