use Rattle.concrete_worlds.specs.Running.{IsWorld}
use Rattle.source_tests.proofs.run_programs.run_main.Given as goal

abbrev pub invariant-loop-turn : goal.invariant-loop-turn
invariant-loop-turn l = IsWorld l.world
