use Rattle.std.proofs.Common.{◌≡◌, ℕ, ◌<◌, ◌+◌, List, [], ◌∷◌, ◌++◌, length, take, get_or, sym, subst, arith}
use Rattle.std.proofs.lemmas.List.{take_more}
use Rattle.call_graph.specs.Reaching.{HasMarked}
use Rattle.call_graph.proofs.Marking.{marks_both}
use Rattle.call_graph.proofs.reaching.mark_all.Goals as goal

pub loop-g-preserved : goal.loop-g-preserved
loop-g-preserved c =
    let callees = c.args.callees.now in
    let i : ℕ = c.loop-g.g-index in
    subst (λ (cs : List ℕ). HasMarked cs c.args.marks.now.items c.mark.new.marks.items c.args.waiting.now.items c.mark.new.waiting.items) (sym (take_more callees i 0 c.loop-g-test.true))
    (marks_both (take i callees) (get_or callees i 0 ∷ []) c.args.marks.now.items c.loop-g.marks.items c.mark.new.marks.items c.args.waiting.now.items c.loop-g.waiting.items c.mark.new.waiting.items
    c.loop-g.invariant c.in_ok-mark.ensures)

pub mark-requires : goal.mark-requires
mark-requires c = omega (arith, c.requires c.loop-g.g-index 0 c.loop-g-test.true, c.loop-g.invariant.same, c.args.marks.now.ok.0, c.loop-g.marks.ok.0)
