use Rattle.std.proofs.Common.{ℕ, ◌∷◌, [], ◌++◌, false, get_or, ◌∙◌, ap}
use Rattle.path_origins.specs.declared.origins.NotedCall.{NotedCall}
use Rattle.edge_origins.specs.declared.starts.Start.{Start}
use Rattle.edge_origins.specs.reading.Starts.{start_by}
use Rattle.edge_origins.proofs.Lists.{map_next}
use Rattle.edge_origins.proofs.starts.put_called.Goals as goal

pub loop-call-preserved : goal.loop-call-preserved
loop-call-preserved c =
    let none : NotedCall = record { path = 0; at = 0; used = false } in
    let calls = c.args.calls.now in
    let call : NotedCall = get_or calls c.loop-call.call-index none in
    let with_at : ℕ → Start = λ n. record { path = call.path; at = n; used = call.used } in
    map_next (start_by c.args.at) calls c.loop-call.call-index none c.args.to.now.items c.loop-call.to.items
    c.push.new.self.items c.loop-call-test.true c.loop-call.invariant
    (c.in_ok-push.ensures.items ∙ ap (λ n. c.loop-call.to.items ++ with_at n ∷ []) c.in_ok-more.ensures)
