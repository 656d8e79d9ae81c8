use Rattle.std.proofs.Common.{◌≡◌, ◌<◌, ℕ, length, get_or}
use Rattle.mutex_configs.specs.tm_laid.Layouts.{laid_tree}
use Rattle.mutex_configs.specs.flow_graph.declared.graphs.Graph.{Graph}
use Rattle.mutex_configs.specs.declared.nodes.ConfiguredGraph.{ConfiguredGraph}
use Rattle.entry_states.specs.body_systems.Facts.{Facts, AreFactsOf}
use Rattle.program_systems.proofs.facts.facts_of_bodies.Given as goal

abbrev pub invariant-loop-number : goal.invariant-loop-number
invariant-loop-number l = (length l.bodies.items ≡ l.number)
    × ((t : ℕ) (g : Graph) (c : ConfiguredGraph) (f : Facts) → t < l.number
    → AreFactsOf (laid_tree l.program.laid) (get_or l.program.graphs.graphs.items t g)
    (get_or l.program.configured.items t c) (get_or l.bodies.items t f))
