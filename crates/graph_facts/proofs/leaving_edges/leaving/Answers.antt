use Rattle.std.proofs.Common.{◌≡◌, ◌<◌, ◌≤◌, ◌+◌, ◌∙◌, ℕ, List, ◌∷◌, [], ◌++◌, ap, sym, subst, take, get_or, length, arith}
use Rattle.std.proofs.lemmas.List.{take_more, take_all, length-take-le}
use Rattle.flow_graph.specs.declared.graphs.Edge.{Edge}
use Rattle.flow_graph.specs.Graphs.{Edges}
use Rattle.graph_facts.specs.Leaving.{AreLeaving}
use Rattle.graph_facts.specs.Lists.{numbers}
use Rattle.graph_facts.proofs.Edges.{leaving_none, leaving_more}
use Rattle.graph_facts.proofs.leaving_edges.leaving.Goals as goal

pub loop-number-preserved : goal.loop-number-preserved
loop-number-preserved c =
    let edges : Edges = c.args.graph.now.edges.items in
    let k : ℕ = c.loop-number.number in
    let e : Edge = c.index.result.now in
    let lt : k < length edges = (let a = c.loop-number-test.true in let b = c.len-number-end.ensures in let d = c.args.graph.now.edges.ok.0 in omega (arith, a, b, d)) in
    let is : e ≡ get_or edges k e = c.index.ensures in
    let more : take (k + 1) edges ≡ take k edges ++ e ∷ [] = take_more edges k e lt ∙ ap (λ (x : Edge). take k edges ++ x ∷ []) (sym is) in
    let within : e.from < c.args.graph.now.nodes = subst (λ (x : Edge). x.from < c.args.graph.now.nodes) (sym is) (c.requires k e lt).0 in
    subst (λ (g : Edges). AreLeaving g c.args.graph.now.nodes (numbers c.push_place.new.lists.items)) (sym more)
    (subst (λ (ls : List (List ℕ)). AreLeaving (take k edges ++ e ∷ []) c.args.graph.now.nodes ls) (sym c.in_ok-push_place.ensures)
    (leaving_more (take k edges) e c.args.graph.now.nodes k (numbers c.loop-number.leaving.items) (sym (length-take-le k edges (omega (arith, lt)))) within c.loop-number.invariant))

pub loop-number-init : goal.loop-number-init
loop-number-init c = leaving_none c.args.graph.now.nodes (numbers c.in_ok-leaving.leaving.items) c.in_ok-leaving.ensures

pub returns : goal.returns
returns c =
    let edges : Edges = c.args.graph.now.edges.items in
    let le : length edges ≤ c.loop-number.number = (let a = c.loop-number-test.false in let b = c.len-number-end.ensures in let d = c.args.graph.now.edges.ok.0 in omega (arith, a, b, d)) in
    subst (λ (g : Edges). AreLeaving g c.args.graph.now.nodes (numbers c.loop-number.leaving.items)) (take_all c.loop-number.number edges le) c.loop-number.invariant
