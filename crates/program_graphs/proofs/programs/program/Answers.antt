use Rattle.tm_laid.specs.Layouts.{laid_tree}
use Rattle.program_graphs.proofs.Graphs.{are_graphs, few_cells, few_graphs}
use Rattle.program_graphs.proofs.programs.program.Goals as goal

pub configured-requires-clause-graphs : goal.configured-requires-clause-graphs
configured-requires-clause-graphs c =
    are_graphs c.args.scale (laid_tree c.args.laid) c.in_ok-graphs.graphs.graphs.items c.requires c.in_ok-graphs.ensures

pub configured-requires-clause-cells : goal.configured-requires-clause-cells
configured-requires-clause-cells c = few_cells (laid_tree c.args.laid) c.requires

pub configured-requires-clause-bodies : goal.configured-requires-clause-bodies
configured-requires-clause-bodies c =
    few_graphs c.args.scale (laid_tree c.args.laid) c.in_ok-graphs.graphs.graphs.items c.requires c.in_ok-graphs.ensures
