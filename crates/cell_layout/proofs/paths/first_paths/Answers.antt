use Rattle.std.proofs.Common.{◌+◌, ap, sym, subst, ℕ, List, arith}
use Rattle.std.proofs.lemmas.List.{drop_more}
use Rattle.tm_typed.specs.TypedFiles.{typed_file_tree}
use Rattle.cell_layout.specs.reading.Counts.{sum_of}
use Rattle.cell_layout.specs.reading.Waits.{size_of}
use Rattle.cell_layout.proofs.PathSteps.{AreNumbers, numbers_more, body_exact, all_sizes}
use Rattle.cell_layout.proofs.paths.first_paths.Goals as goal

pub overflow_add-number : goal.overflow_add-number
overflow_add-number c =
    let file = typed_file_tree c.args.file.now in
    let r = body_exact file c.args.file.now.order.items c.args.totals.now c.args.bodies.now c.loop-body.body-index c.total_at-number.result c.requires.layable c.requires.totals c.requires.within
    c.requires.bodies c.loop-body-test.true c.total_at-number.ensures in
    let a = r.0 in
    let b = r.1 in
    let d = ap (sum_of (size_of file)) (drop_more c.args.bodies.now c.loop-body.body-index 0 c.loop-body-test.true) in
    let n = c.loop-body.invariant.next in
    let s = all_sizes file c.args.bodies.now c.requires.within c.requires.bodies in
    omega (arith, a, b, d, n, s)

pub loop-body-preserved : goal.loop-body-preserved
loop-body-preserved c =
    let file = typed_file_tree c.args.file.now in
    let r = body_exact file c.args.file.now.order.items c.args.totals.now c.args.bodies.now c.loop-body.body-index c.total_at-number.result c.requires.layable c.requires.totals c.requires.within
    c.requires.bodies c.loop-body-test.true c.total_at-number.ensures in
    let P : List ℕ → Type 0 = λ ns. AreNumbers file c.args.bodies.now 0 (c.loop-body.body-index + 1) ns (c.loop-body.number + c.total_at-number.result) in
    subst P (sym c.in_ok-push.ensures.items)
    (numbers_more file c.args.file.now.order.items c.args.bodies.now 0 c.loop-body.body-index c.loop-body.numbers.items c.loop-body.number c.total_at-number.result c.loop-body-test.true r.0 c.loop-body.invariant)
