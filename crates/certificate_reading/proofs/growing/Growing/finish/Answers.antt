use Rattle.std.proofs.Common.{◌∙◌, ap}
use Rattle.std.specs.FinMap.{entries}
use Rattle.certificate_reading.specs.Nesting.{task_entries}
use Rattle.certificate_reading.proofs.growing.Growing.finish.Goals as goal

pub returns : goal.returns
returns c =
    c.in_ok-put_sets.ensures.entries
    ∙ ap (task_entries (entries c.args.self.tasks)) (c.in_ok-put_cells.ensures.entries c.args.self.next.task)
