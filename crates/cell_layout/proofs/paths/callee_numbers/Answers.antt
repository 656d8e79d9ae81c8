use Rattle.std.proofs.Common.{◌≡◌, ◌+◌, ◌≤◌, ◌<◌, ◌∙◌, ap, sym, subst, ℕ, List, length, get_or, arith}
use Rattle.std.proofs.lemmas.List.{drop_more}
use Rattle.tm_typed.specs.CallGraph.{calls_in}
use Rattle.tm_typed.specs.TypedFiles.{typed_file_tree}
use Rattle.tm_typed.specs.Files.{TypedFileTree}
use Rattle.tm_laid.specs.Layable.{IsLayable}
use Rattle.tm_terms.specs.declared.refusals.Limit.TheVariants as Limits
use Rattle.cell_layout.specs.reading.Counts.{AreTotals, sum_of}
use Rattle.cell_layout.specs.reading.Waits.{size_of}
use Rattle.cell_layout.proofs.PathSteps.{AreNumbers, numbers_more, numbers_all, exact, size_opens}
use Rattle.cell_layout.proofs.paths.callee_numbers.Goals as goal

step : (file : TypedFileTree) (order totals items : List ℕ) (f first i number total : ℕ) (numbers new : List ℕ) → IsLayable file order → AreTotals file Limits.Paths totals → size_of file f ≤ 65536
    → items ≡ calls_in file.calls f → i < length items → total ≡ get_or totals (get_or items i 0) 0 → AreNumbers file (calls_in file.calls f) first i numbers number
    → (total ≡ size_of file (get_or (calls_in file.calls f) i 0)) × (i < length (calls_in file.calls f))
step file order totals items f first i number total numbers new h t small e lt is before =
    let here : i < length (calls_in file.calls f) = (let a = ap length e in omega (arith, a, lt)) in
    (exact file order totals f i total h t small here (is ∙ ap (λ (xs : List ℕ). get_or totals (get_or xs i 0) 0) e), here)

bounded : (file : TypedFileTree) (order : List ℕ) (f first i number total : ℕ) (numbers : List ℕ) → IsLayable file order → size_of file f ≤ 65536 → first ≤ 65536 → i < length (calls_in file.calls f)
    → total ≡ size_of file (get_or (calls_in file.calls f) i 0) → AreNumbers file (calls_in file.calls f) first i numbers number → number + total ≤ 131072
bounded file order f first i number total numbers h small le lt e before =
    let a = ap (sum_of (size_of file)) (drop_more (calls_in file.calls f) i 0 lt) in
    let b = before.next in
    let c = size_opens file order h f in
    omega (arith, a, b, c, e, small, le)

pub overflow_add-number : goal.overflow_add-number
overflow_add-number c =
    let file = typed_file_tree c.args.file.now in
    let s = step file c.args.file.now.order.items c.args.totals.now c.calls_of-callee-items.result.now c.args.function c.args.first c.loop-callee.callee-index c.loop-callee.number c.total_at-number.result
    c.loop-callee.numbers.items c.loop-callee.numbers.items c.requires.layable c.requires.totals c.requires.small c.calls_of-callee-items.ensures c.loop-callee-test.true c.total_at-number.ensures c.loop-callee.invariant in
    let b = bounded file c.args.file.now.order.items c.args.function c.args.first c.loop-callee.callee-index c.loop-callee.number c.total_at-number.result c.loop-callee.numbers.items
    c.requires.layable c.requires.small c.requires.number s.1 s.0 c.loop-callee.invariant in
    omega (arith, b)

pub loop-callee-preserved : goal.loop-callee-preserved
loop-callee-preserved c =
    let file = typed_file_tree c.args.file.now in
    let calls : List ℕ = calls_in file.calls c.args.function in
    let s = step file c.args.file.now.order.items c.args.totals.now c.calls_of-callee-items.result.now c.args.function c.args.first c.loop-callee.callee-index c.loop-callee.number c.total_at-number.result
    c.loop-callee.numbers.items c.loop-callee.numbers.items c.requires.layable c.requires.totals c.requires.small c.calls_of-callee-items.ensures c.loop-callee-test.true c.total_at-number.ensures c.loop-callee.invariant in
    let P : List ℕ → Type 0 = λ ns. AreNumbers file calls c.args.first (c.loop-callee.callee-index + 1) ns (c.loop-callee.number + c.total_at-number.result) in
    subst P (sym c.in_ok-push.ensures.items)
    (numbers_more file c.args.file.now.order.items calls c.args.first c.loop-callee.callee-index c.loop-callee.numbers.items c.loop-callee.number c.total_at-number.result s.1 s.0 c.loop-callee.invariant)

pub returns : goal.returns
returns c =
    let calls : List ℕ = calls_in (typed_file_tree c.args.file.now).calls c.args.function in
    let a = c.loop-callee-test.false in
    let b = ap length c.calls_of-callee-items.ensures in
    numbers_all (typed_file_tree c.args.file.now) calls c.args.first c.loop-callee.callee-index
    c.loop-callee.numbers.items c.loop-callee.number (omega (arith, a, b)) c.loop-callee.invariant
