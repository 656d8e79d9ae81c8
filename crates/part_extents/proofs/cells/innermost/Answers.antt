use Rattle.std.proofs.Common.{ap, sym, ◌∙◌, ◌+◌, ◌-◌, arith}
use Rattle.tm_laid.specs.Layouts.{laid_tree}
use Rattle.part_extents.specs.Parts.{innermost_within}
use Rattle.part_extents.proofs.Depths.{inner_goes, inner_ends, inner_past}
use Rattle.part_extents.proofs.cells.innermost.Goals as goal

pub returns-in-None : goal.returns-in-None
returns-in-None c =
    let laid = laid_tree c.args.laid.now in
    let at = c.loop-step.at in
    sym (inner_ends laid 1024 c.loop-step._step at (omega arith) (sym c.step_down.ensures ∙ c.in-None.is)) ∙ c.loop-step.invariant

pub loop-step-preserved : goal.loop-step-preserved
loop-step-preserved c =
    let laid = laid_tree c.args.laid.now in
    let at = c.loop-step.at in
    let i = c.loop-step._step in
    ap (innermost_within laid (1024 - (i + 1))) c.part_in-at.ensures
    ∙ sym (inner_goes laid 1024 i at c.in-Some.down (omega arith) (sym c.step_down.ensures ∙ c.in-Some.is))
    ∙ c.loop-step.invariant

pub returns : goal.returns
returns c =
    let laid = laid_tree c.args.laid.now in
    sym (inner_past laid 1024 c.loop-step._step c.loop-step.at (omega arith)) ∙ c.loop-step.invariant
