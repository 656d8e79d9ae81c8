use Rattle.std.proofs.Common.{◌∙◌, ◌++◌, ap, subst, ℕ, List, map, reverse, ◌∷◌, [], arith}
use Rattle.std.proofs.lemmas.List.{map-append}
use Rattle.tm_typed.specs.TypedFiles.{typed_file_tree}
use Rattle.cell_layout.specs.declared.paths.Waiting.{Waiting}
use Rattle.cell_layout.specs.reading.Waits.{IsNumbered}
use Rattle.cell_layout.proofs.PathSteps.{waiting_small, waiting_exact, paths_few, numbered_more}
use Rattle.cell_layout.proofs.paths.number_path.Goals as goal

pub overflow_add-number : goal.overflow_add-number
overflow_add-number c = let few = paths_few (typed_file_tree c.args.file.now) c.requires.within in let more = c.requires.more in omega (arith, few, more)

pub callee_numbers-requires-clause-number : goal.callee_numbers-requires-clause-number
callee_numbers-requires-clause-number c = let few = paths_few (typed_file_tree c.args.file.now) c.requires.within in let more = c.requires.more in omega (arith, few, more)

pub callee_numbers-requires-clause-small : goal.callee_numbers-requires-clause-small
callee_numbers-requires-clause-small c =
    let file = typed_file_tree c.args.file.now in
    let ps = c.args.numbered.now.paths.items in
    let cs : List (List ℕ) = map (λ v. v.items) c.args.numbered.now.callees.items in
    let P : List Waiting → Type 0 = λ ws. IsNumbered file c.args.number ps cs ws in
    waiting_small file c.args.number ps cs c.pop.new.self.items c.in-Some.next c.requires.within (subst P c.in-Some.ensures.items c.requires.numbered)

pub waiting_calls-requires-clause-small : goal.waiting_calls-requires-clause-small
waiting_calls-requires-clause-small c =
    let file = typed_file_tree c.args.file.now in
    let ps = c.args.numbered.now.paths.items in
    let cs : List (List ℕ) = map (λ v. v.items) c.args.numbered.now.callees.items in
    let P : List Waiting → Type 0 = λ ws. IsNumbered file c.args.number ps cs ws in
    waiting_small file c.args.number ps cs c.pop.new.self.items c.in-Some.next c.requires.within (subst P c.in-Some.ensures.items c.requires.numbered)

pub returns-in_ok-push-in-Some-2 : goal.returns-in_ok-push-in-Some-2
returns-in_ok-push-in-Some-2 c =
    let file = typed_file_tree c.args.file.now in
    let ps = c.args.numbered.now.paths.items in
    let cs : List (List ℕ) = map (λ v. v.items) c.args.numbered.now.callees.items in
    numbered_more file c.args.file.now.order.items c.args.number ps c.push-in-Some.new.self.items cs (map (λ v. v.items) c.push.new.self.items) c.pop.new.self.items c.args.numbered.now.waiting.items
    c.push_reversed.new.waiting.items c.in_ok-calls-in-Some.calls.items c.in-Some.next c.total_at.result c.in_ok-callees-in-Some.callees.items
    c.requires.layable c.in-Some.ensures.items c.in_ok-calls-in-Some.ensures
    (c.in_ok-push_reversed-in-Some.ensures ∙ ap (λ (xs : List Waiting). c.pop.new.self.items ++ reverse xs) c.deref.ensures.value)
    (waiting_exact file c.args.number ps cs c.pop.new.self.items c.args.numbered.now.waiting.items c.in-Some.next c.args.totals.now c.total_at.result c.requires.within c.requires.totals
    c.in-Some.ensures.items c.requires.numbered c.total_at.ensures)
    c.in_ok-push-in-Some-2.ensures.items c.in_ok-callees-in-Some.ensures
    (ap (map (λ v. v.items)) c.in_ok-push-in-Some.ensures.items ∙ map-append (λ v. v.items) c.args.numbered.now.callees.items (c.in_ok-callees-in-Some.callees ∷ []))
    c.requires.numbered
