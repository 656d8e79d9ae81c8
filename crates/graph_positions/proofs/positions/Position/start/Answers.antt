use Rattle.graph_positions.proofs.Entry.{entry_memory}
use Rattle.graph_positions.proofs.positions.Position.start.Goals as goal

pub returns-clause-memory : goal.returns-clause-memory
returns-clause-memory c =
    entry_memory c.in_ok-temporaries.temporaries.items c.in_ok-seen.seen.items c.count_of_temporaries.result c.args.graph.now.nodes c.in_ok-temporaries.ensures c.in_ok-seen.ensures c.requires.entry
