use Rattle.std.proofs.Common.{◌+◌, drop}
use Rattle.tm_typed.specs.TypedStatements.{as_typed_cases, typed_case}
use Rattle.path_origins.specs.reading.Leaving.{label_noted, labels_noted}
use Rattle.path_origins.proofs.Leaving.{yet_first, yet_more, yet_last, labels_more, labels_last}
use Rattle.path_origins.proofs.statements.note_labels.Goals as goal

pub loop-part-init : goal.loop-part-init
loop-part-init c = yet_first c.args.to.now (labels_noted (as_typed_cases c.args.parts.now))

pub loop-part-preserved : goal.loop-part-preserved
loop-part-preserved c =
    let xs = c.args.parts.now in
    let i = c.loop-part.part-index in
    yet_more c.args.to.now c.loop-part.to c.note_label.new.to (labels_noted (as_typed_cases (drop i xs)))
    (labels_noted (as_typed_cases xs)) (label_noted (typed_case c.part-item.result))
    (labels_noted (as_typed_cases (drop (i + 1) xs)))
    (labels_more xs i c.part-item.result c.loop-part-test.true c.part-item.is) c.in_ok-note_label.ensures
    c.loop-part.invariant

pub returns : goal.returns
returns c =
    let xs = c.args.parts.now in
    yet_last c.args.to.now c.loop-part.to (labels_noted (as_typed_cases (drop c.loop-part.part-index xs)))
    (labels_noted (as_typed_cases xs)) (labels_last xs c.loop-part.part-index c.loop-part-test.false)
    c.loop-part.invariant
