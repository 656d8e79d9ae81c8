use Rattle.std.proofs.Common.{◌≡◌, ◌↔◌, ◌⊎◌, ◌≤◌, ℕ, length, subst, arith}
use Rattle.std.specs.Prelude.{Contains}
use Rattle.std.proofs.lemmas.List.{take_all}
use Rattle.access_races.specs.reading.Ways.{HasOne}
use Rattle.operand_orders.specs.reading.Touches.{HasTarget}
use Rattle.operand_orders.specs.reading.Views.{solved}
use Rattle.access_races.proofs.Joins.{joined, one_more}
use Rattle.program_reports.proofs.Tables.{relabelled}
use Rattle.operand_orders.proofs.Elements.{alongside}
use Rattle.operand_orders.proofs.Touching.{beside, targets_at_edge}
use Rattle.operand_orders.proofs.reached.add_targets.Goals as goal

pub loop-copy-preserved : goal.loop-copy-preserved
loop-copy-preserved c = λ p.
    joined (c.in_ok-add_copy.ensures p) (c.loop-copy.invariant p)
    (beside (one_more (λ (k : ℕ). HasTarget (solved c.args.view) c.args.access p.second k)
    c.copies_of-copy-items.result.now
    c.loop-copy.copy-index 0 c.loop-copy-test.true))

pub returns : goal.returns
returns c = λ p.
    let b = solved c.args.view in
    let numbers = c.copies_of-copy-items.result.now in
    let end : length numbers ≤ c.loop-copy.copy-index = omega arith in
    relabelled
    (subst (λ ns. Contains c.loop-copy.pairs.items p ↔ (Contains c.args.pairs.now.items p ⊎ ((p.first ≡ c.args.edge)
    × HasOne (λ (k : ℕ). HasTarget b c.args.access p.second k) ns))) (take_all c.loop-copy.copy-index numbers end)
    (c.loop-copy.invariant p))
    (alongside (targets_at_edge b c.args.access c.args.edge numbers c.copies_of-copy-items.ensures p.second))
