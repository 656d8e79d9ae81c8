use Rattle.std.proofs.Common.{◌≡◌, ◌+◌, ◌<◌, ◌∷◌, [], ◌++◌, ◌∙◌, ℕ, List, drop, get_or, ap, length, arith}
use Rattle.std.specs.Prelude.{Some}
use Rattle.tm_typed.specs.CallGraph.{calls_in}
use Rattle.tm_typed.specs.TypedFiles.{typed_file_tree}
use Rattle.cell_layout.specs.declared.paths.Waiting.{Waiting}
use Rattle.cell_layout.specs.reading.Waits.{calls_waiting}
use Rattle.cell_layout.proofs.PathSteps.{calls_few, site_more}
use Rattle.cell_layout.proofs.paths.waiting_calls.Goals as goal

pub overflow_add-site : goal.overflow_add-site
overflow_add-site c =
    let few = calls_few (typed_file_tree c.args.file.now) c.args.file.now.order.items c.requires.layable
    c.args.function c.requires.small in
    let same = ap length c.calls_of-callee-items.ensures in
    let lt = c.loop-callee-test.true in
    let site = c.loop-callee.invariant.0 in
    omega (arith, few, same, lt, site)

pub loop-callee-preserved : goal.loop-callee-preserved
loop-callee-preserved c =
    let calls : List ℕ = calls_in (typed_file_tree c.args.file.now).calls c.args.function in
    let i : ℕ = c.loop-callee.callee-index in
    let body : ℕ = c.args.body in
    let path : ℕ = c.args.path in
    let site : ℕ = c.loop-callee.site in
    let before : List Waiting = c.loop-callee.waiting.items in
    let rest : List Waiting = calls_waiting body path (site + 1) (drop (i + 1) calls) in
    let e : c.calls_of-callee-items.result.now ≡ calls = c.calls_of-callee-items.ensures in
    let lt : i < length calls = (let a = c.loop-callee-test.true in let b = ap length e in omega (arith, a, b)) in
    let same = c.loop-callee.invariant.0 in (
      omega (arith, same),
      ap (λ (ws : List Waiting). ws ++ rest) c.in_ok-push.ensures.items
          ∙ ap (λ (fs : List ℕ). (before ++ record {
            body = body;
            function = get_or fs i 0;
            caller = Some
                (record { path = path; site = site });
          } ∷ []) ++ rest) e
          ∙ site_more body path site i calls before (calls_waiting body path 0 calls) lt c.loop-callee.invariant.1,
    )
