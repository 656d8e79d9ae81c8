use Rattle.serde_json.specs.View.{view}
use Rattle.log_baselines.specs.Standings.{standing_line}
use Rattle.log_baselines.proofs.Looped.{texts_more}
use Rattle.log_baselines.proofs.standings.lines.Goals as goal

pub loop-found-preserved : goal.loop-found-preserved
loop-found-preserved c =
    texts_more view c.args.results.now c.loop-found.found-index c.found-item.result c.loop-found-test.true
    c.found-item.is standing_line _ _ c.loop-found.invariant c.in_ok-push_line.ensures
