use Rattle.std.proofs.Common.{ℕ, ◌<◌, get_or}
use Rattle.graph_positions.specs.declared.runs.Run.{Run}
use Rattle.graph_positions.specs.Positions.{HasRoom}
use Rattle.concrete_worlds.proofs.task_runs.have_room.Given as goal

abbrev pub invariant-loop-run : goal.invariant-loop-run
invariant-loop-run l = (task : ℕ) (run : Run) → task < l.run-index → HasRoom (get_or l.runs task run).position
