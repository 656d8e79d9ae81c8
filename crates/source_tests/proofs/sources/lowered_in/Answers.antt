use Rattle.tm_laid.specs.declared.scales.Scale.TheVariants as Scales
use Rattle.source_tests.proofs.sources.lowered_in.Goals as goal

pub returns-in-Ok-clause-graphs : goal.returns-in-Ok-clause-graphs
returns-in-Ok-clause-graphs c =
    c.programs_have_graphs.ensures Scales.Usual c.args.layout.laid c.in-Ok.graphs.graphs.items c.requires.typed
    c.in-Ok.ensures
