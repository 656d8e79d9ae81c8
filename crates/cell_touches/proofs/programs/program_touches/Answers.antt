use Rattle.std.proofs.Common.{◌+◌, sym, subst}
use Rattle.mutex_configs.specs.tm_laid.Layouts.{laid_tree}
use Rattle.cell_touches.proofs.BodiesInOrder.{AreFirst, one_more}
use Rattle.cell_touches.proofs.programs.program_touches.Goals as goal

pub loop-body-preserved : goal.loop-body-preserved
loop-body-preserved c =
    let laid = laid_tree c.args.program.now.laid in
    let cs = c.args.program.now.configured.items in
    let n = c.loop-body.body in
    subst (λ ts. AreFirst laid cs (n + 1) ts) (sym c.in_ok-push.ensures.items)
    (one_more laid cs n c.loop-body.touches.items c.in_ok-of_body.of_body c.loop-body.invariant
    c.in_ok-of_body.ensures)
