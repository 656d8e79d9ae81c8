use Rattle.std.proofs.Common.{take}
use Rattle.tm_laid.specs.Layouts.{laid_tree}
use Rattle.graph_positions.specs.RunsAfter.{IsRunAfter}
use Rattle.graph_positions.proofs.runs.graph_next.Given as goal

abbrev pub invariant-loop-answer : goal.invariant-loop-answer
invariant-loop-answer l = IsRunAfter (laid_tree l.laid) l.graph.edges.items l.graph.nodes (take l.answer-index l.answers) l.run
