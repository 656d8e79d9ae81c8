use Rattle.std.proofs.Common.{ap, sym, ◌∙◌, length}
use Rattle.tm_laid.specs.Layouts.{laid_tree}
use Rattle.task_interpreter.specs.reading.Direct.{ended, body_ran}
use Rattle.task_interpreter.proofs.Law.{next_law}
use Rattle.task_interpreter.proofs.interpreter.next.Goals as goal

pub returns-in-Ok : goal.returns-in-Ok
returns-in-Ok c =
    let laid = laid_tree c.args.laid.now in
    let answers = c.args.answers.now in
    c.last.ensures
    ∙ ap (ended answers)
    (sym c.in-Ok.is ∙ c.body.ensures ∙ ap (λ d. body_ran laid answers d c.first_path.result 0) c.depth_of.ensures
    ∙ ap (λ q. body_ran laid answers (length laid.file.functions) q 0) c.first_path.ensures)
    ∙ next_law laid c.args.task answers

pub returns-in-Err : goal.returns-in-Err
returns-in-Err c =
    let laid = laid_tree c.args.laid.now in
    let answers = c.args.answers.now in
    ap (ended answers)
    (sym c.in-Err.is ∙ c.body.ensures ∙ ap (λ d. body_ran laid answers d c.first_path.result 0) c.depth_of.ensures
    ∙ ap (λ q. body_ran laid answers (length laid.file.functions) q 0) c.first_path.ensures)
    ∙ next_law laid c.args.task answers
