use Rattle.std.proofs.Common.{◌≡◌, ◌<◌, ◌≤◌, ◌+◌, ◌∙◌, ℕ, List, ◌∷◌, [], ◌++◌, ap, sym, take, get_or}
use Rattle.std.proofs.Common.{length, arith, replicate}
use Rattle.std.proofs.lemmas.List.{take_more, take_all}
use Rattle.flow_graph.specs.declared.graphs.Edge.{Edge}
use Rattle.flow_graph.specs.Graphs.{Edges}
use Rattle.temporary_extents.specs.declared.extents.Extent.{Extent}
use Rattle.temporary_extents.specs.declared.extents.Extent.TheVariants.{Nothing}
use Rattle.temporary_extents.specs.Extents.{extended, extended_by}
use Rattle.temporary_extents.proofs.Steps.{extended_more}
use Rattle.temporary_extents.proofs.extents.extents_of.Goals as goal

pub loop-number-preserved : goal.loop-number-preserved
loop-number-preserved c =
    let edges : Edges = c.args.graph.now.edges.items in
    let k : ℕ = c.loop-number.number in
    let e : Edge = c.index.result.now in
    let lt : k < length edges =
    (let a = c.loop-number-test.true in let b = c.len-number-end.ensures in
    let d = c.args.graph.now.edges.ok.0 in omega (arith, a, b, d)) in
    let is : e ≡ get_or edges k e = c.index.ensures in
    let more : take (k + 1) edges ≡ take k edges ++ e ∷ [] =
    take_more edges k e lt ∙ ap (λ (x : Edge). take k edges ++ x ∷ []) (sym is) in
    let none : List Extent = replicate c.args.count Nothing in
    c.extend.ensures ∙ ap (λ m. extended m e.op) c.loop-number.invariant ∙ sym (extended_more none (take k edges) e)
    ∙ ap (extended_by none) (sym more)

pub returns : goal.returns
returns c =
    let edges : Edges = c.args.graph.now.edges.items in
    let le : length edges ≤ c.loop-number.number =
    (let a = c.loop-number-test.false in let b = c.len-number-end.ensures in
    let d = c.args.graph.now.edges.ok.0 in omega (arith, a, b, d)) in
    c.loop-number.invariant ∙ ap (extended_by (replicate c.args.count Nothing)) (take_all c.loop-number.number edges le)
