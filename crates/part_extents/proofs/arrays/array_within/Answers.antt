use Rattle.std.proofs.Common.{ap, sym, ◌∙◌, arith}
use Rattle.std.specs.Prelude.{option_map}
use Rattle.tm_laid.specs.Layouts.{laid_tree}
use Rattle.part_extents.specs.reading.Sought.{part_of, is_sought}
use Rattle.part_extents.proofs.Depths.{array_found, array_goes, array_ends, array_past}
use Rattle.part_extents.proofs.arrays.array_within.Goals as goal

pub returns-then-branch : goal.returns-then-branch
returns-then-branch c =
    let laid = laid_tree c.args.laid.now in
    sym (array_found laid (is_sought laid c.args.sought) c.args.offset 1024 c.loop-step._step (part_of c.loop-step.part) (omega arith)
    (sym c.in_ok-is_sought.ensures ∙ c.if-branch.true))
    ∙ c.loop-step.invariant

pub returns-in-None : goal.returns-in-None
returns-in-None c =
    let laid = laid_tree c.args.laid.now in
    sym (array_ends laid (is_sought laid c.args.sought) c.args.offset 1024 c.loop-step._step (part_of c.loop-step.part) (omega arith)
    (sym c.in_ok-is_sought.ensures ∙ c.if-branch.false) (sym c.in_ok-next.ensures ∙ ap (option_map part_of) c.in-None.is))
    ∙ c.loop-step.invariant

pub loop-step-preserved : goal.loop-step-preserved
loop-step-preserved c =
    let laid = laid_tree c.args.laid.now in
    sym (array_goes laid (is_sought laid c.args.sought) c.args.offset 1024 c.loop-step._step (part_of c.loop-step.part) (part_of c.in-Some.next) (omega arith)
    (sym c.in_ok-is_sought.ensures ∙ c.if-branch.false) (sym c.in_ok-next.ensures ∙ ap (option_map part_of) c.in-Some.is))
    ∙ c.loop-step.invariant

pub returns : goal.returns
returns c =
    let laid = laid_tree c.args.laid.now in
    sym (array_past laid (is_sought laid c.args.sought) c.args.offset 1024 c.loop-step._step (part_of c.loop-step.part) (omega arith)) ∙ c.loop-step.invariant
