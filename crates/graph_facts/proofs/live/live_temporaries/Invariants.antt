use Rattle.std.proofs.Common.{◌≡◌, ◌*◌, ◌^◌, false}
use Rattle.graph_facts.specs.Live.{AreLive}
use Rattle.graph_facts.specs.Lists.{numbers}
use Rattle.graph_facts.specs.reading.Live.{ArePartlyLive}
use Rattle.graph_facts.proofs.Sweeps.{left}
use Rattle.graph_facts.proofs.live.live_temporaries.Given as goal

abbrev pub invariant-loop-more : goal.invariant-loop-more
invariant-loop-more l = record {
  partly : ArePartlyLive l.graph.edges.items l.graph.nodes (numbers l.lists.items);
  whole : l.more ≡ false → AreLive l.graph.edges.items l.graph.nodes (numbers l.lists.items);
}

abbrev pub decreases-loop-more : goal.decreases-loop-more
decreases-loop-more l = left (l.graph.nodes * 2 ^ 32) l.more (numbers l.lists.items)
