use Rattle.std.proofs.Common.{ℕ, ◌∷◌, [], get_or, subst}
use Rattle.path_origins.specs.declared.origins.Form.TheVariants as Forms
use Rattle.path_origins.specs.declared.origins.NotedEdge.{NotedEdge}
use Rattle.edge_origins.specs.reading.Edges.{at_edge, ArePut, edge_at}
use Rattle.edge_origins.proofs.Putting.{put_next}
use Rattle.edge_origins.proofs.edges.put_edges.Goals as goal

pub loop-edge-preserved : goal.loop-edge-preserved
loop-edge-preserved c =
    let none : NotedEdge = record { at = 0; place = record { line = 0; col = 0 }; form = Forms.Skip } in
    let edges = c.args.edges.now in
    let edge : NotedEdge = get_or edges c.loop-edge.edge-index none in
    let old = c.loop-edge.origins.items in
    let new = c.put.new.origins.items in
    let At : ℕ → Type 0 = λ n. ArePut old new
    (at_edge n (record { path = c.args.start.path; place = edge.place; form = edge.form }) ∷ []) in
    put_next (edge_at c.args.start.path c.args.start.at) edges c.loop-edge.edge-index none c.args.origins.now.items old
    new c.loop-edge-test.true c.loop-edge.invariant (subst At c.in_ok-more.ensures c.in_ok-put.ensures)
