use Rattle.std.proofs.Common.{◌≡◌, ◌<◌, ◌≤◌, ◌+◌, ◌∙◌, ℕ, Bool, false, List, ◌∷◌, [], ◌++◌, ap, sym, take, get_or}
use Rattle.std.proofs.Common.{length, arith, replicate}
use Rattle.std.proofs.lemmas.List.{take_more, take_all}
use Rattle.flow_graph.specs.declared.graphs.Edge.{Edge}
use Rattle.flow_graph.specs.Graphs.{Edges}
use Rattle.temporary_types.specs.PointerMarks.{marked, marked_by}
use Rattle.temporary_types.proofs.MarkSteps.{marked_more}
use Rattle.temporary_types.proofs.marks.pointer_temps.Goals as goal

pub loop-number-preserved : goal.loop-number-preserved
loop-number-preserved c =
    let edges : Edges = c.args.graph.now.edges.items in
    let k : ℕ = c.loop-number.number in
    let e : Edge = c.index.result.now in
    let lt : k < length edges =
    (let a = c.loop-number-test.true in let b = c.len-number-end.ensures in
    let d = c.args.graph.now.edges.ok.0 in omega (arith, a, b, d)) in
    let is : e ≡ get_or edges k e = c.index.ensures in
    let more : take (k + 1) edges ≡ take k edges ++ e ∷ [] =
    take_more edges k e lt ∙ ap (λ (x : Edge). take k edges ++ x ∷ []) (sym is) in
    let none : List Bool = replicate c.args.count false in
    c.mark.ensures ∙ ap (λ m. marked m e.op) c.loop-number.invariant ∙ sym (marked_more none (take k edges) e)
    ∙ ap (marked_by none) (sym more)

pub returns : goal.returns
returns c =
    let edges : Edges = c.args.graph.now.edges.items in
    let le : length edges ≤ c.loop-number.number =
    (let a = c.loop-number-test.false in let b = c.len-number-end.ensures in
    let d = c.args.graph.now.edges.ok.0 in omega (arith, a, b, d)) in
    c.loop-number.invariant ∙ ap (marked_by (replicate c.args.count false)) (take_all c.loop-number.number edges le)
