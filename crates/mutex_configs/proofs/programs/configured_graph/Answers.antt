use Rattle.std.proofs.Common.{subst, option_map}
use Rattle.mutex_configs.specs.reading.Searches.{IsFound}
use Rattle.mutex_configs.proofs.Whole.{places_are}
use Rattle.mutex_configs.proofs.programs.configured_graph.Goals as goal

pub copies-requires-clause-places : goal.copies-requires-clause-places
copies-requires-clause-places c =
    let s = subst (λ o. IsFound c.args.graph.now c.number.result (option_map (λ n. n.keys) o)) c.in-Some.is c.in_ok-nodes.ensures in
    places_are c.args.graph.now.edges.items c.args.graph.now.nodes c.in-Some.nodes.keys s.0 c.requires.entry c.requires.to
