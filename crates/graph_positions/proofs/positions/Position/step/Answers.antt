use Rattle.std.proofs.Common.{◌≡◌, ◌<◌, ◌∙◌, ◌+◌, ℕ, List, map, drop, ap, sym, subst, get_or, arith}
use Rattle.std.proofs.lemmas.List.{drop_more, drop_all, get_or_default}
use Rattle.tm_laid.specs.Layouts.{LaidTree, laid_tree}
use Rattle.concrete_values.specs.declared.values.Value.{Value}
use Rattle.flow_graph.specs.declared.graphs.Edge.{Edge}
use Rattle.flow_graph.specs.Operations.{doing}
use Rattle.flow_graph.specs.Graphs.{Edges}
use Rattle.flow_graph.specs.Runs.{Memory, move_along, move}
use Rattle.graph_positions.specs.Outcomes.{doing_of}
use Rattle.graph_positions.specs.Memories.{temps_of, memory_of}
use Rattle.graph_positions.specs.reading.Steps.{no_edge, edge_at}
use Rattle.graph_positions.proofs.Numbers.{here_numbers, edges_of, leaves_at}
use Rattle.graph_positions.proofs.Moves.{step_here, step_on}
use Rattle.graph_positions.proofs.positions.Position.step.Goals as goal

pub loop-number-init : goal.loop-number-init
loop-number-init c =
    let laid : LaidTree = laid_tree c.args.laid.now in
    let g : Edges = c.args.graph.now.edges.items in
    let p = c.args.self.now in
    let ns : List ℕ = c.deref-number-items.result.now in
    let e = here_numbers g c.args.graph.now.nodes p.node p.leaving.items c.index.result.now ns c.requires.position.leaving c.requires.position.here c.index.ensures c.deref-number-items.ensures.value in
    ap (λ (es : Edges). move_along laid es (memory_of p)) (edges_of g p.node ns e)

pub index-edge-requires : goal.index-edge-requires
index-edge-requires c =
    let g : Edges = c.args.graph.now.edges.items in
    let p = c.args.self.now in
    let ns : List ℕ = c.deref-number-items.result.now in
    let e = here_numbers g c.args.graph.now.nodes p.node p.leaving.items c.index.result.now ns c.requires.position.leaving c.requires.position.here c.index.ensures c.deref-number-items.ensures.value in
    let l = (leaves_at g p.node ns c.loop-number.number-index e c.loop-number-test.true).within in
    let d = c.args.graph.now.edges.ok.0 in
    omega (arith, l, d)

pub step_along-requires-clause-seen : goal.step_along-requires-clause-seen
step_along-requires-clause-seen c =
    let g : Edges = c.args.graph.now.edges.items in
    let p = c.args.self.now in
    let ns : List ℕ = c.deref-number-items.result.now in
    let x : Edge = c.index-edge.result.now in
    let e = here_numbers g c.args.graph.now.nodes p.node p.leaving.items c.index.result.now ns c.requires.position.leaving c.requires.position.here c.index.ensures c.deref-number-items.ensures.value in
    let l = leaves_at g p.node ns c.loop-number.number-index e c.loop-number-test.true in
    let b : x.to < c.args.graph.now.nodes = subst (λ (y : Edge). y.to < c.args.graph.now.nodes) (sym c.index-edge.ensures) (c.requires.graph.range (get_or ns c.loop-number.number-index 0) x l.within).1 in
    let s = c.requires.position.seen in
    omega (arith, b, s)

pub returns-in-Some : goal.returns-in-Some
returns-in-Some c =
    let laid : LaidTree = laid_tree c.args.laid.now in
    let g : Edges = c.args.graph.now.edges.items in
    let p = c.args.self.now in
    let m : Memory = memory_of p in
    let ns : List ℕ = c.deref-number-items.result.now in
    let i : ℕ = c.loop-number.number-index in
    let k : ℕ = get_or ns i 0 in
    let x : Edge = c.index-edge.result.now in
    let e = here_numbers g c.args.graph.now.nodes p.node p.leaving.items c.index.result.now ns c.requires.position.leaving c.requires.position.here c.index.ensures c.deref-number-items.ensures.value in
    let l = leaves_at g p.node ns i e c.loop-number-test.true in
    let does = subst (λ (vs : List Value). doing_of c.doing-outcome.result ≡ doing laid x.op (temps_of vs)) c.deref.ensures.value c.doing-outcome.ensures in
    step_here laid g p.node m k x c.doing-outcome.result c.in-Some.step (map (edge_at g) (drop (i + 1) ns)) (c.index-edge.ensures ∙ get_or_default g k x no_edge l.within) l does
    (sym c.step_along.ensures ∙ c.in-Some.is) (sym (ap (λ (xs : List ℕ). move_along laid (map (edge_at g) xs) m) (drop_more ns i 0 c.loop-number-test.true)) ∙ c.loop-number.invariant)

pub loop-number-preserved : goal.loop-number-preserved
loop-number-preserved c =
    let laid : LaidTree = laid_tree c.args.laid.now in
    let g : Edges = c.args.graph.now.edges.items in
    let p = c.args.self.now in
    let m : Memory = memory_of p in
    let ns : List ℕ = c.deref-number-items.result.now in
    let i : ℕ = c.loop-number.number-index in
    let k : ℕ = get_or ns i 0 in
    let x : Edge = c.index-edge.result.now in
    let e = here_numbers g c.args.graph.now.nodes p.node p.leaving.items c.index.result.now ns c.requires.position.leaving c.requires.position.here c.index.ensures c.deref-number-items.ensures.value in
    let l = leaves_at g p.node ns i e c.loop-number-test.true in
    let does = subst (λ (vs : List Value). doing_of c.doing-outcome.result ≡ doing laid x.op (temps_of vs)) c.deref.ensures.value c.doing-outcome.ensures in
    step_on laid g m k x c.doing-outcome.result (map (edge_at g) (drop (i + 1) ns)) (move laid g p.node m) (c.index-edge.ensures ∙ get_or_default g k x no_edge l.within) does
    (sym c.step_along.ensures ∙ c.in_default.is) (sym (ap (λ (xs : List ℕ). move_along laid (map (edge_at g) xs) m) (drop_more ns i 0 c.loop-number-test.true)) ∙ c.loop-number.invariant)

pub returns : goal.returns
returns c =
    let laid : LaidTree = laid_tree c.args.laid.now in
    let g : Edges = c.args.graph.now.edges.items in
    let m : Memory = memory_of c.args.self.now in
    let ns : List ℕ = c.deref-number-items.result.now in
    record {
      is = sym c.loop-number.invariant ∙ ap (λ (xs : List ℕ). move_along laid (map (edge_at g) xs) m) (drop_all c.loop-number.number-index ns c.loop-number-test.false);
      along = tt;
    }
