use Rattle.std.proofs.Common.{◌≡◌, ◌∙◌, ap, subst, arith, length, take, All}
use Rattle.std.proofs.Math.Seq.{take-length}
use Rattle.std.proofs.lemmas.List.Elements.{All-more}
use Rattle.flow_graph.specs.declared.operations.Operation.TheVariants as Op
use Rattle.engine_tests.specs.Checks.{IsEdge}
use Rattle.engine_tests.proofs.made_graphs.are_edges.Goals as goal

pub loop-edge-preserved : goal.loop-edge-preserved
loop-edge-preserved c =
    All-more (IsEdge c.args.nodes) c.args.edges.now c.loop-edge.edge-index (record { from = 0; to = 0; op = Op.Skip }) c.loop-edge-test.true
    c.loop-edge.invariant (c.is_edge.ensures c.if-not-is_edge.false)

pub returns : goal.returns
returns c =
    let a = c.loop-edge-test.false in
    let b = c.loop-edge.auto.edge-index-end in
    λ t. subst (λ es. All (IsEdge c.args.nodes) es)
    (ap (λ n. take n c.args.edges.now) (let e : c.loop-edge.edge-index ≡ length c.args.edges.now = omega (arith, a, b) in e) ∙ take-length c.args.edges.now)
    c.loop-edge.invariant
