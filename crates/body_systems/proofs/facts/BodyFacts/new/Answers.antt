use Rattle.std.proofs.Common.{subst, sym, ◌<◌, List}
use Rattle.std.specs.Prelude.{All}
use Rattle.graph_facts.specs.declared.regions.Head.{Head}
use Rattle.body_systems.proofs.Indices.{heads_within}
use Rattle.body_systems.proofs.facts.BodyFacts.new.Goals as goal

pub heads_by_place-requires : goal.heads_by_place-requires
heads_by_place-requires c =
    subst (λ (hs : List Head). All (λ (h : Head). h.node < c.args.graph.now.nodes) hs) (sym c.deref-3.ensures.value)
    (heads_within c.args.graph.now.edges.items c.args.graph.now.nodes c.in_ok-heads.heads.items c.requires.range
    c.in_ok-heads.ensures)
