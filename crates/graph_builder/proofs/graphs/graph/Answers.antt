use Rattle.std.proofs.Common.{refl, ◌≤◌, arith}
use Rattle.tm_terms.specs.declared.refusals.Limit.TheVariants as Limits
use Rattle.tm_laid.specs.Scales.{number_on}
use Rattle.flow_graph.specs.declared.graphs.Graph.{Graph}
use Rattle.body_builder.specs.Fragments.{tree_in}
use Rattle.graph_builder.proofs.GraphPieces.{whole}
use Rattle.graph_builder.proofs.graphs.graph.Goals as goal

pub returns : goal.returns
returns c =
    let fragment = c.in_ok-fragment.fragment in
    let graph : Graph = record { body = c.args.body; nodes = fragment.nodes; edges = c.in_ok-edges.edges } in
    let few : fragment.nodes ≤ number_on c.args.scale Limits.Nodes =
    omega (arith, c.if-nodes-number.false, c.number.ensures) in
    whole c.args.scale (tree_in c.args.paths.now.laid.now) c.args.body fragment graph c.in_ok-fragment.ensures refl refl
    c.in_ok-edges.ensures few
