use Rattle.std.proofs.Common.{ap, ◌∙◌}
use Rattle.std.specs.Prelude.{slice_get}
use Rattle.program_notes.specs.reading.Lookups.{in_graphs}
use Rattle.program_notes.proofs.OperationsFound.{operation_found}
use Rattle.program_notes.proofs.operations.operation_of.Goals as goal

pub returns : goal.returns
returns c =
    let first = slice_get c.args.alarm.now.edges.items 0 in
    c.first_operation.ensures ∙ ap (λ graphs. in_graphs graphs first) c.deref.ensures.value
    ∙ operation_found c.args.program.now c.args.facts.now c.requires.analysable c.requires.facts first
