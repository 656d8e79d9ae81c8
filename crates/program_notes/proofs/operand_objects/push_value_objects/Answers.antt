use Rattle.std.proofs.Common.{sym, ap, ◌∙◌, ◌++◌}
use Rattle.std.specs.FinMap.{entries}
use Rattle.std.proofs.lemmas.List.{append-nil}
use Rattle.pointer_dom.specs.PointerSets.{Pointers}
use Rattle.notes_json.specs.Pieces.{listed}
use Rattle.program_notes.specs.OperandTexts.{pointed_text}
use Rattle.program_notes.proofs.Pointed.{none_pointed}
use Rattle.program_notes.proofs.operand_objects.push_value_objects.Goals as goal

pub returns-in-None : goal.returns-in-None
returns-in-None c =
    let numbers = c.args.numbers.now in
    let flaws = c.args.flaws.now in
    sym (ap (λ x. c.args.text.now.items ++ x)
    (ap (λ (p : Pointers). listed (pointed_text numbers flaws) (entries p.objects)) (sym c.in-None.ensures.value)
    ∙ none_pointed numbers flaws) ∙ append-nil c.args.text.now.items)
