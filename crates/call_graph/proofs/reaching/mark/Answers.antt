use Rattle.std.proofs.Common.{◌≡◌, ℕ, ◌<◌, List, [], ◌∷◌, ◌++◌, length, set, get_or, sym, ◌∙◌, true, false, arith}
use Rattle.std.proofs.lemmas.List.{get_or_default}
use Rattle.call_graph.proofs.Marking.{marks_again, marks_new, pushed_mark}
use Rattle.call_graph.proofs.reaching.mark.Goals as goal

pub returns-then-index : goal.returns-then-index
returns-then-index c =
    let within : c.args.callee < length c.args.marks.now.items = omega (arith, c.requires, c.args.marks.now.ok.0) in
    marks_again c.args.marks.now.items c.args.waiting.now.items c.args.callee (get_or_default c.args.marks.now.items c.args.callee false c.index.result.now within ∙ sym c.index.ensures ∙ c.if-index.true)

pub returns : goal.returns
returns c =
    let marks = c.args.marks.now.items in
    let waiting = c.args.waiting.now.items in
    let g : ℕ = c.args.callee in
    let within : g < length marks = omega (arith, c.requires, c.args.marks.now.ok.0) in
    pushed_mark c.push.result (g ∷ []) marks (set marks g true) waiting (waiting ++ g ∷ []) c.push.new.items.items c.push.ensures
    (marks_new marks waiting g within (get_or_default marks g false c.index.result.now within ∙ sym c.index.ensures ∙ c.if-index.false))
