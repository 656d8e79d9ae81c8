use Rattle.std.proofs.Common.{◌≡◌, ◌∙◌, ◌++◌, ap, sym, subst, ℕ, List, [], map, reverse, length, arith}
use Rattle.tm_terms.specs.declared.refusals.Limit.TheVariants as Limits
use Rattle.tm_typed.specs.TypedFiles.{typed_file_tree}
use Rattle.tm_laid.specs.declared.paths.CallPath.{CallPath}
use Rattle.tm_laid.specs.Paths.{paths_of}
use Rattle.cell_layout.specs.declared.paths.Waiting.{Waiting}
use Rattle.cell_layout.specs.reading.Waits.{IsNumbered}
use Rattle.cell_layout.proofs.LimitCounts.{exact_count}
use Rattle.cell_layout.proofs.PathSteps.{bodies_few, numbered_none, numbered_all, paths_counted}
use Rattle.cell_layout.proofs.paths.call_paths.Goals as goal

pub waiting_bodies-requires : goal.waiting_bodies-requires
waiting_bodies-requires c =
    record { few = (let a = ap length c.requires.bodies in let b = bodies_few (typed_file_tree c.args.file.now) c.requires.within in omega (arith, a, b)) }

pub loop-number-init : goal.loop-number-init
loop-number-init c =
    let file = typed_file_tree c.args.file.now in
    let P : List CallPath → Type 0 = λ ps. IsNumbered file 0 ps (map (λ v. v.items) c.new-2.result.items) c.push_reversed.new.waiting.items in
    let Q : List (List ℕ) → Type 0 = λ cs. IsNumbered file 0 [] cs c.push_reversed.new.waiting.items in
    subst P (sym c.new.ensures.items) (subst Q (sym (ap (map (λ v. v.items)) c.new-2.ensures.items))
    (numbered_none file c.args.file.now.order.items c.requires.layable c.args.bodies.now c.in_ok-first.first.items c.push_reversed.new.waiting.items c.requires.bodies c.in_ok-first.ensures
    (c.in_ok-push_reversed.ensures ∙ ap (λ (xs : List Waiting). xs ++ reverse c.deref.result.now) c.new-3.ensures.items ∙ ap (λ (xs : List Waiting). [] ++ reverse xs) c.deref.ensures.value)))

pub number_path-requires-clause-more : goal.number_path-requires-clause-more
number_path-requires-clause-more c =
    let file = typed_file_tree c.args.file.now in
    let a = exact_count file c.args.file.now.order.items Limits.Paths c.args.totals.now c.args.bodies.now c.count_all-number-end.result c.requires.layable tt c.requires.totals c.requires.bodies c.requires.within
    c.count_all-number-end.ensures in
    let b = paths_counted file in
    let lt = c.loop-number-test.true in
    omega (arith, a, b, lt)

pub returns : goal.returns
returns c =
    let file = typed_file_tree c.args.file.now in
    let a = exact_count file c.args.file.now.order.items Limits.Paths c.args.totals.now c.args.bodies.now c.count_all-number-end.result c.requires.layable tt c.requires.totals c.requires.bodies c.requires.within
    c.count_all-number-end.ensures in
    let b = paths_counted file in
    let ge = c.loop-number-test.false in
    let end' = c.loop-number.auto.number-end in
    let all = numbered_all file c.loop-number.number c.loop-number.numbered.paths.items (map (λ v. v.items) c.loop-number.numbered.callees.items) c.loop-number.numbered.waiting.items
    (let z : c.loop-number.number ≡ length (paths_of file) = omega (arith, a, b, ge, end') in z) c.loop-number.invariant in
    record { paths = all.0; callees = all.1 }
