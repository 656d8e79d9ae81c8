use Rattle.concrete_worlds.specs.Running.{IsWorld}
use Rattle.source_tests.proofs.run_rows.push_choices.Given as goal

abbrev pub invariant-loop-word : goal.invariant-loop-word
invariant-loop-word l = IsWorld l.world
