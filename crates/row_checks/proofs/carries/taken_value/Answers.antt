use Rattle.std.proofs.Common.{◌∙◌, ap, sym, cond}
use Rattle.pointer_dom.specs.Values.{joined_values, no_value}
use Rattle.interfere_set.specs.Stores.{handed}
use Rattle.interfere_set.proofs.Reading.{join_none}
use Rattle.row_checks.proofs.Joined.{join_below}
use Rattle.row_checks.proofs.carries.taken_value.Goals as goal

pub returns-then-not-is_shared_cell : goal.returns-then-not-is_shared_cell
returns-then-not-is_shared_cell c =
    let v = c.args.value.now in
    c.in_ok-copied.ensures
    ∙ sym (ap (λ b. joined_values v (cond b (handed c.args.view.now.task c.args.mutex c.args.cell c.args.store.now) no_value))
    (sym c.is_shared_cell.ensures ∙ c.if-not-is_shared_cell.true) ∙ join_none v c.is_nothing-own.ensures.value)

pub returns-then-below : goal.returns-then-below
returns-then-below c =
    let v = c.args.value.now in
    let others = c.in_ok-others.others in
    c.in_ok-copied-2.ensures
    ∙ sym (ap (λ b. joined_values v (cond b (handed c.args.view.now.task c.args.mutex c.args.cell c.args.store.now) no_value))
    (sym c.is_shared_cell.ensures ∙ c.if-not-is_shared_cell.false)
    ∙ ap (joined_values v) (sym c.in_ok-others.ensures)
    ∙ join_below v others c.is_nothing-own.ensures.value c.is_nothing-others.ensures.value
    (c.below.ensures.0 c.if-below.true))

pub returns : goal.returns
returns c =
    let v = c.args.value.now in
    c.in_ok-join.ensures ∙ ap (joined_values v) c.in_ok-others.ensures
    ∙ sym (ap (λ b. joined_values v (cond b (handed c.args.view.now.task c.args.mutex c.args.cell c.args.store.now) no_value))
    (sym c.is_shared_cell.ensures ∙ c.if-not-is_shared_cell.false))
