use Rattle.std.proofs.Common.{◌≤◌, length, ap, ◌∙◌, arith}
use Rattle.std.specs.FinMap as map
use Rattle.open_choices.proofs.Leftover.{IsHolding, held_temp, temp_held}
use Rattle.open_choices.proofs.Searching.{is_found, not_found, not_so, none_yet, none_more, none_of_all, one_found}
use Rattle.open_choices.proofs.beginnings.is_held_by_temp.Goals as goal

pub loop-temp-init : goal.loop-temp-init
loop-temp-init c = none_yet (IsHolding c.args.own c.args.object) c.entries-temp-items.result.now

pub returns-then-is_holding : goal.returns-then-is_holding
returns-then-is_holding c =
    let items = c.entries-temp-items.result.now in
    let whole = c.entries-temp-items.ensures ∙ ap map.entries c.temps.ensures in
    is_found (held_temp c.args.state.now c.args.own c.args.object items whole
    (one_found (IsHolding c.args.own c.args.object) items c.loop-temp.temp-index c.loop-temp-item.result
    c.loop-temp-test.true c.loop-temp-item.is (c.is_holding.ensures.0 c.if-is_holding.true)))

pub loop-temp-preserved : goal.loop-temp-preserved
loop-temp-preserved c =
    none_more (IsHolding c.args.own c.args.object) c.entries-temp-items.result.now c.loop-temp.temp-index
    c.loop-temp-item.result c.loop-temp-test.true c.loop-temp-item.is c.loop-temp.invariant
    (not_so c.is_holding.result c.is_holding.ensures c.if-is_holding.false)

pub returns : goal.returns
returns c =
    let items = c.entries-temp-items.result.now in
    let whole = c.entries-temp-items.ensures ∙ ap map.entries c.temps.ensures in
    let end : length items ≤ c.loop-temp.temp-index = omega arith in
    not_found (λ h. none_of_all (IsHolding c.args.own c.args.object) items c.loop-temp.temp-index end
    c.loop-temp.invariant (temp_held c.args.state.now c.args.own c.args.object items whole h))
