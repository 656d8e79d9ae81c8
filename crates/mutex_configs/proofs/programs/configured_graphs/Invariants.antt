use Rattle.std.proofs.Common.{take}
use Rattle.mutex_configs.specs.Programs.{AreConfigured}
use Rattle.mutex_configs.proofs.programs.configured_graphs.Given as goal

abbrev pub invariant-loop-graph : goal.invariant-loop-graph
invariant-loop-graph l = AreConfigured l.scale (take l.graph-index l.graphs) l.configured.items
