use Rattle.mutex_configs.specs.tm_laid.Layouts.{laid_tree}
use Rattle.cell_touches.proofs.BodiesInOrder.{AreFirst}
use Rattle.cell_touches.proofs.programs.program_touches.Given as goal

abbrev pub invariant-loop-body : goal.invariant-loop-body
invariant-loop-body l = AreFirst (laid_tree l.program.laid) l.program.configured.items l.body l.touches.items
