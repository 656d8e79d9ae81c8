use Rattle.std.proofs.Common.{ℕ, ◌+◌, ◌∙◌, get_or, sym, ap, subst, arith}
use Rattle.std.proofs.lemmas.List.{drop_all, get_or_default}
use Rattle.std.specs.FinMap.{get}
use Rattle.pointer_dom.specs.Values.{Values, IsValues, joined_values, no_value}
use Rattle.calculations.specs.transfer_rows.Rows.{found_in}
use Rattle.edge_actions.specs.Edges.{around_of}
use Rattle.interfere_set.proofs.Reading.{IsJoinedUpTo, joined_start, joined_next, joined_end}
use Rattle.edge_effects.proofs.loads.loaded.Goals as goal

pub loop-cell-init : goal.loop-cell-init
loop-cell-init c =
    let part : ℕ → Values = λ x. found_in (around_of c.args.view.now) c.args.store.now x (get c.args.state.now.cells x) in
    subst (IsJoinedUpTo part c.args.cells.now 0)
    (sym (c.from_numbers-value.ensures ∙ ap (λ n. record { numbers = n; pointers = no_value.pointers }) c.empty.ensures)) (joined_start part c.args.cells.now)

pub loop-cell-preserved : goal.loop-cell-preserved
loop-cell-preserved c =
    let part : ℕ → Values = λ x. found_in (around_of c.args.view.now) c.args.store.now x (get c.args.state.now.cells x) in
    let cells = c.args.cells.now in
    let i = c.loop-cell.cell-index in
    let x = get_or cells i 0 in
    let next = joined_next part cells i c.loop-cell.value x c.loop-cell-test.true (get_or_default cells i 0 x c.loop-cell-test.true) (subst IsValues c.in_ok-found.ensures c.is_nothing-found.ensures.value) c.loop-cell.invariant in
    subst (IsJoinedUpTo part cells (i + 1)) (sym (c.in_ok-value.ensures ∙ ap (joined_values c.loop-cell.value) c.in_ok-found.ensures)) next

pub returns : goal.returns
returns c =
    let part : ℕ → Values = λ x. found_in (around_of c.args.view.now) c.args.store.now x (get c.args.state.now.cells x) in
    joined_end part c.args.cells.now c.loop-cell.cell-index c.loop-cell.value (drop_all c.loop-cell.cell-index c.args.cells.now (omega (arith, c.loop-cell-test.false))) c.loop-cell.invariant
