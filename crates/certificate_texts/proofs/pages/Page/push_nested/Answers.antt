use Rattle.std.proofs.Common.{refl}
use Rattle.certificate_texts.specs.StoreLines.{task_lines}
use Rattle.certificate_texts.proofs.Adding.{no_lines, as_lines, lines_next, flat_map_all}
use Rattle.certificate_texts.proofs.pages.Page.push_nested.Goals as goal

pub loop-task-init : goal.loop-task-init
loop-task-init c = no_lines _ _ refl

pub loop-task-preserved : goal.loop-task-preserved
loop-task-preserved c =
    lines_next (task_lines c.args.letters.now) c.entries-task-items.result.now c.loop-task.task-index c.loop-task-item.result _ _ _ c.loop-task-test.true
    c.loop-task-item.is c.loop-task.invariant c.in_ok-push_task_entries.ensures

pub returns : goal.returns
returns c =
    as_lines c.loop-task.invariant (flat_map_all (task_lines c.args.letters.now) c.entries-task-items.result.now _ c.loop-task.task-index c.loop-task-test.false
    c.entries-task-items.ensures)
