use Rattle.source_notes.proofs.finders.WorkersFinder.find.Goals as goal

pub returns : goal.returns
returns g c = (c.requires c.args.analysis).1 c.find.result c.find.ensures
