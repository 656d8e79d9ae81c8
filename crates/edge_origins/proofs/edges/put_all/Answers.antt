use Rattle.std.proofs.Common.{◌≡◌, List, false, get_or, map, subst, sym, ap, ◌∙◌}
use Rattle.path_origins.specs.declared.origins.NotedEdge.{NotedEdge}
use Rattle.path_origins.specs.Noted.{Noted}
use Rattle.edge_origins.specs.declared.starts.Start.{Start}
use Rattle.edge_origins.specs.reading.PathNotes.{noted_in}
use Rattle.edge_origins.specs.reading.Edges.{ArePut, edge_at, edges_on}
use Rattle.edge_origins.proofs.Walked.{noted_read}
use Rattle.edge_origins.proofs.Putting.{put_flat}
use Rattle.edge_origins.proofs.edges.put_all.Goals as goal

pub loop-start-preserved : goal.loop-start-preserved
loop-start-preserved c =
    let none : Start = record { path = 0; at = 0; used = false } in
    let notes = c.args.notes.now in
    let starts = c.args.starts.now in
    let start : Start = get_or starts c.loop-start.start-index none in
    let old = c.loop-start.origins.items in
    let new = c.put_edges.new.origins.items in
    let look = c.in-Some.ensures.lookup in
    let read = noted_read notes start.path c.in-Some.found.now look.3.0 look.1 in
    let edges : c.deref.result.now ≡ (noted_in notes start.path).edges =
    c.deref.ensures.value ∙ sym (ap (λ (x : Noted). x.edges) read) in
    let Of : List NotedEdge → Type 0 = λ l. ArePut old new (map (edge_at start.path start.at) l) in
    put_flat (edges_on notes) starts c.loop-start.start-index none c.args.origins.now.items old new
    c.loop-start-test.true c.loop-start.invariant (subst Of edges c.in_ok-put_edges.ensures)
