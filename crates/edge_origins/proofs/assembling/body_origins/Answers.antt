use Rattle.std.proofs.Common.{subst}
use Rattle.std.proofs.lemmas.Result.{IfOk-weaker}
use Rattle.tm_laid.specs.Layouts.{laid_tree}
use Rattle.edge_origins.specs.reading.Gathered.{IsGathered}
use Rattle.edge_origins.proofs.assembling.body_origins.Goals as goal

pub returns : goal.returns
returns c =
    IfOk-weaker c.origins_along.result _ _
    (λ o h. record {
      starts = c.in_ok-starts.starts.items;
      begin = c.in_ok-starts.ensures;
      gathered = subst (λ l. IsGathered (laid_tree c.args.laid.now) c.args.notes.now l c.args.graph.now o)
          c.deref.ensures.value h;
    }) c.origins_along.ensures
