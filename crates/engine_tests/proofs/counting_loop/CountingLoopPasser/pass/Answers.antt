use Rattle.engine_tests.proofs.counting_loop.CountingLoopPasser.pass.Goals as goal

pub returns : goal.returns
returns c = c.in_ok-added.ensures
