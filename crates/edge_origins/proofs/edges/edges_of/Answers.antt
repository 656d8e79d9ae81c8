use Rattle.std.proofs.Common.{◌∙◌}
use Rattle.std.proofs.lemmas.Result.{IfOk-weaker}
use Rattle.std.specs.List.{flat_map}
use Rattle.edge_origins.specs.reading.Edges.{edges_on}
use Rattle.edge_origins.proofs.Putting.{put_all}
use Rattle.edge_origins.proofs.edges.edges_of.Goals as goal

pub returns : goal.returns
returns c =
    IfOk-weaker c.all_there.result _ _
    (λ v h. put_all c.in_ok-origins.origins.items c.put_all.new.origins.items v.items
    (flat_map (edges_on c.args.notes.now) c.args.starts.now) c.in_ok-origins.ensures c.in_ok-put_all.ensures
    (h ∙ c.deref.ensures.value)) c.all_there.ensures
