use Rattle.std.proofs.Common.{arith, length, ◌+◌, ◌-◌, slice_get}
use Rattle.std.proofs.lemmas.List.{length-map}
use Rattle.tm_typed.specs.Scopes.{structure_of}
use Rattle.tm_typed.specs.TypedFiles.{typed_file_tree}
use Rattle.tm_laid.specs.Layouts.{scalars_of_type}
use Rattle.cell_types.proofs.Steps.{too_deep}
use Rattle.cell_types.proofs.descents.scalar_of.Goals as goal

pub returns : goal.returns
returns c =
    let file = typed_file_tree c.args.file.now in
    too_deep file c.args.file.now.order.items c.requires.layable (slice_get (scalars_of_type file c.args.of) c.args.cell)
    (length file.types + length file.structs - c.loop-step._step) c.loop-step.part (let structs = length-map c.args.file.now.structs.items structure_of in omega (arith, c.loop-step-test.false, c.len.ensures, c.len-2.ensures, structs)) c.loop-step.invariant
