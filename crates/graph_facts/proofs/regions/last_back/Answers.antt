use Rattle.std.proofs.Common.{◌≡◌, ◌<◌, ◌≤◌, ◌+◌, ◌∙◌, ℕ, List, ◌∷◌, [], ◌++◌, ap, sym, subst, take, get_or, set, length, arith, Option, Some, None}
use Rattle.std.specs.Prelude.{Vec}
use Rattle.std.specs.declared.alloc.Global.{Global}
use Rattle.std.proofs.lemmas.List.{take_more, take_all, get_or_default}
use Rattle.flow_graph.specs.declared.graphs.Edge.{Edge}
use Rattle.flow_graph.specs.Graphs.{Edges}
use Rattle.graph_facts.specs.reading.Heads.{AreLastBack}
use Rattle.graph_facts.proofs.HeadSteps.{last_none, last_forward, last_more}
use Rattle.graph_facts.proofs.regions.last_back.Goals as goal
use Rattle.graph_facts.proofs.regions.last_back.Goals.{then-edge, else-edge}

pub loop-number-init : goal.loop-number-init
loop-number-init c = last_none c.args.graph.now.nodes c.in_ok-last.last.items c.in_ok-last.ensures

pub loop-number-preserved : goal.loop-number-preserved
loop-number-preserved c =
    let edges : Edges = c.args.graph.now.edges.items in
    let nodes : ℕ = c.args.graph.now.nodes in
    let k : ℕ = c.loop-number.number in
    let e : Edge = c.index-edge.result.now in
    let last = c.loop-number.last.items in
    let lt : k < length edges = (let a = c.loop-number-test.true in let b = c.len-number-end.ensures in let d = c.args.graph.now.edges.ok.0 in omega (arith, a, b, d)) in
    let is : e ≡ get_or edges k e = c.index-edge.ensures in
    let more : take (k + 1) edges ≡ take k edges ++ e ∷ [] = take_more edges k e lt ∙ ap (λ (x : Edge). take k edges ++ x ∷ []) (sym is) in
    let within : e.to < nodes = subst (λ (x : Edge). x.to < nodes) (sym is) (c.requires k e lt).1 in
    let P : Vec (Option ℕ) Global → Type 0 = λ v. AreLastBack (take (k + 1) edges) nodes v.items in
    let Q : List (Option ℕ) → Edges → Type 0 = λ ls g. AreLastBack g nodes ls in
    elim c.if-edge.branch [
      | then-edge w ↦ subst P (sym w.last-is) (subst (Q (set last e.to (Some w.later.result))) (sym more)
          (subst (λ (m : ℕ). AreLastBack (take k edges ++ e ∷ []) nodes (set last e.to (Some m))) (sym w.later.ensures)
          (last_more (take k edges) e nodes last w.index.result.now w.if-edge.true within
          (w.index.ensures ∙ get_or_default last e.to w.index.result.now None (let a = c.loop-number.invariant.node_count in omega (arith, a, within))) c.loop-number.invariant)))
      | else-edge w ↦ subst P (sym w.last-is) (subst (Q last) (sym more) (last_forward (take k edges) e nodes last w.if-edge.false c.loop-number.invariant))
    ]

pub returns : goal.returns
returns c =
    let edges : Edges = c.args.graph.now.edges.items in
    let le : length edges ≤ c.loop-number.number = (let a = c.loop-number-test.false in let b = c.len-number-end.ensures in let d = c.args.graph.now.edges.ok.0 in omega (arith, a, b, d)) in
    subst (λ (g : Edges). AreLastBack g c.args.graph.now.nodes c.loop-number.last.items) (take_all c.loop-number.number edges le) c.loop-number.invariant
