use Rattle.analyser.proofs.solvers.WorkersSolver.solve.Goals as goal

pub returns : goal.returns
returns g c = (c.requires c.args.analysis).1 c.solve.result c.solve.ensures
