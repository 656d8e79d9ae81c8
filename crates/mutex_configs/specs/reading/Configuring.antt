-- What the configuring of graphs finds.
use Rattle.std.specs.Prelude.{◌≤◌, List, length, Option, Some, None}
use Rattle.tm_terms.specs.declared.refusals.Limit.TheVariants as Limits
use Rattle.tm_laid.specs.declared.scales.Scale.{Scale}
use Rattle.tm_laid.specs.Scales.{number_on}
use Rattle.flow_graph.specs.declared.graphs.Graph.{Graph}
use Rattle.mutex_configs.specs.declared.nodes.ConfiguredGraph.{ConfiguredGraph}
use Rattle.mutex_configs.specs.Nodes.{IsConfigured, HasMoreNodes}
use Rattle.mutex_configs.specs.Programs.{AreConfigured, HasTooManyNodes}

abbrev pub IsOne : Scale → Graph → Option ConfiguredGraph → Type 0
IsOne scale g (Some c) = IsConfigured g.edges.items c × (length c.nodes.keys ≤ number_on scale Limits.Nodes)
IsOne scale g None = HasMoreNodes g.edges.items (number_on scale Limits.Nodes)

abbrev pub AreAll : Scale → List Graph → Option (List ConfiguredGraph) → Type 0
AreAll scale gs (Some cs) = AreConfigured scale gs cs
AreAll scale gs None = HasTooManyNodes scale gs
