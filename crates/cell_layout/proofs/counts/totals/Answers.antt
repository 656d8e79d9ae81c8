use Rattle.std.proofs.Common.{◌≡◌, ◌+◌, ◌<◌, min, get_or, ℕ, List, length, ap, ◌∙◌, arith}
use Rattle.tm_typed.specs.CallGraph.{calls_in}
use Rattle.tm_typed.specs.TypedFiles.{typed_file_tree}
use Rattle.cell_layout.specs.reading.Counts.{beyond_number, own_by, sum_of, total_in}
use Rattle.cell_layout.proofs.Totals.{found_more, found_all}
use Rattle.cell_layout.proofs.counts.totals.Goals as goal

pub loop-function-preserved : goal.loop-function-preserved
loop-function-preserved c =
    let file = typed_file_tree c.args.file.now in
    let order : List ℕ = c.args.file.now.order.items in
    let k : ℕ = c.loop-function.function-index in
    let e : c.deref-function-items.result.now ≡ order = c.deref-function-items.ensures.value in
    let f : ℕ = get_or c.deref-function-items.result.now k 0 in
    let lt : k < length order = (let a = c.loop-function-test.true in let b = ap length e in omega (arith, a, b)) in
    found_more file order c.args.limit c.loop-function.totals.items k f c.sum_over-total.result c.requires.layable lt (ap (λ (xs : List ℕ). get_or xs k 0) e)
    (c.sum_over-total.ensures
    ∙ ap (λ (xs : List ℕ). min (beyond_number c.args.limit) (own_by file c.args.limit f + sum_of (total_in xs) (calls_in file.calls f))) c.deref.ensures.value)
    c.loop-function.invariant

pub returns : goal.returns
returns c =
    let order : List ℕ = c.args.file.now.order.items in
    let e : c.deref-function-items.result.now ≡ order = c.deref-function-items.ensures.value in
    found_all (typed_file_tree c.args.file.now) order c.args.limit c.loop-function.totals.items c.loop-function.function-index c.requires.layable
    (let a = c.loop-function-test.false in let b = ap length e in omega (arith, a, b)) c.loop-function.invariant
