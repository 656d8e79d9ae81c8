use Rattle.std.proofs.Common.{sym, ap, ◌∙◌, ◌++◌}
use Rattle.std.proofs.lemmas.List.{append-nil}
use Rattle.note_lines.specs.OperandTexts.{object_lines}
use Rattle.note_lines.proofs.Objects.{no_lines}
use Rattle.note_lines.proofs.operand_lines.push_value_objects.Goals as goal

pub returns-in-None : goal.returns-in-None
returns-in-None c =
    let bytes = c.args.bytes.now in
    let objects = c.args.names.now.objects.items in
    sym (ap (λ x. c.args.text.now.items ++ x) (ap (object_lines bytes objects) (sym c.in-None.ensures.value)
    ∙ no_lines bytes objects) ∙ append-nil c.args.text.now.items)
