-- What a program has of each graph is there.
use Rattle.configured_laws.specs.Laws.{FactsOfGraphs}
use Rattle.configured_laws.proofs.SomeLive.{some_live}
use Rattle.configured_laws.proofs.SomeHeads.{some_heads}
use Rattle.configured_laws.proofs.SomeWritten.{some_written}

pub facts_of_graphs : FactsOfGraphs
facts_of_graphs laid g nodes =
    let live = some_live g nodes in
    let heads = some_heads g in
    let written = some_written laid g heads.0 heads.1 in
    record {
      live = live.0;
      are_live = live.1;
      heads = heads.0;
      are_heads = heads.1;
      written = written.0;
      are_written = written.1;
    }
