use Rattle.std.proofs.Common.{subst, sym, Some}
use Rattle.flow_graph.specs.declared.graphs.Graph.{Graph}
use Rattle.mutex_configs.specs.reading.Configuring.{IsOne}
use Rattle.mutex_configs.proofs.Whole.{one_more_graph}
use Rattle.mutex_configs.proofs.programs.configured_graphs.Goals as goal

pub returns-in_default : goal.returns-in_default
returns-in_default c = (
  c.loop-graph.graph-index,
  c.graph-item.result,
  c.loop-graph-test.true,
  sym c.graph-item.is,
  subst (λ o. IsOne c.args.scale c.graph-item.result o) c.in_default.is c.in_ok-one.ensures,
)

pub loop-graph-preserved : goal.loop-graph-preserved
loop-graph-preserved c = one_more_graph c.args.scale c.args.graphs.now c.loop-graph.graph-index c.graph-item.result
    c.loop-graph.configured.items c.push.new.self.items c.in-Some.one c.loop-graph-test.true c.loop-graph.invariant
    (subst (λ (g : Graph). IsOne c.args.scale g (Some c.in-Some.one)) c.graph-item.is
    (subst (λ o. IsOne c.args.scale c.graph-item.result o) c.in-Some.is c.in_ok-one.ensures))
    c.in_ok-push.ensures.items
