use Rattle.std.proofs.Common.{◌≡◌, ◌++◌, map, drop}
use Rattle.concrete_steps.specs.Worlds.{initial_content}
use Rattle.concrete_worlds.proofs.starts.push_initial.Given as goal

abbrev pub invariant-loop-value : goal.invariant-loop-value
invariant-loop-value l = l.contents.items ++ map initial_content (drop l.value-index l.values) ≡ l.initial.contents.items ++ map initial_content l.values
