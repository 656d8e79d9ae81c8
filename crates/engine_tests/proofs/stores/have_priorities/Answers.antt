use Rattle.std.proofs.Common.{◌∙◌, ◌<◌, ◌≤◌, All, ap, subst, length, arith}
use Rattle.std.specs.FinMap.{entries}
use Rattle.std.proofs.lemmas.List.{take_all}
use Rattle.engine_tests.proofs.Writers.{Written, below_all}
use Rattle.engine_tests.proofs.stores.have_priorities.Goals as goal

pub returns : goal.returns
returns c =
    let items = c.entries-writer-items.result.now in
    let i = c.loop-writer.writer-index in
    let P : Written → Type 0 = λ e. e.0 < c.args.tasks in
    let past : length items ≤ i = omega (arith, c.loop-writer-test.false) in
    λ t. below_all c.args.store.now c.args.tasks
    (subst (All P) (take_all i items past ∙ c.entries-writer-items.ensures ∙ ap entries c.weak.ensures) c.loop-writer.invariant)
