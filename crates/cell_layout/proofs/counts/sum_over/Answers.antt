use Rattle.std.proofs.Common.{◌+◌, ℕ, List, drop, ap, arith}
use Rattle.std.proofs.lemmas.List.{at_drop_more, at_drop_all}
use Rattle.cell_layout.specs.reading.Counts.{sum_of, total_in}
use Rattle.cell_layout.proofs.counts.sum_over.Goals as goal

pub loop-callee-preserved : goal.loop-callee-preserved
loop-callee-preserved c =
    let w = sum_of (total_in c.args.totals.now) in
    let i : ℕ = c.loop-callee.callee-index in
    let e = c.calls_of-callee-items.ensures in
    let here = ap (λ (xs : List ℕ). w (drop i xs)) e in
    let next = ap (λ (xs : List ℕ). w (drop (i + 1) xs)) e in
    let more = at_drop_more w c.calls_of-callee-items.result.now i 0 c.loop-callee-test.true in
    let a = c.capped-sum.ensures in
    let b = c.total_at.ensures in
    let d = c.loop-callee.invariant.1 in
    (omega (arith, a), omega (arith, here, next, more, a, b, d))

pub returns : goal.returns
returns c =
    let w = sum_of (total_in c.args.totals.now) in
    let i : ℕ = c.loop-callee.callee-index in
    let here = ap (λ (xs : List ℕ). w (drop i xs)) c.calls_of-callee-items.ensures in
    let none = at_drop_all w c.calls_of-callee-items.result.now i (omega (arith, c.loop-callee-test.false)) in
    let a = c.loop-callee.invariant.0 in
    let b = c.loop-callee.invariant.1 in
    omega (arith, here, none, a, b)
