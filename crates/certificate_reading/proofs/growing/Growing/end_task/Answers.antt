use Rattle.std.proofs.Common.{◌∙◌, ap, [], ◌+◌, lit≤, arith}
use Rattle.std.specs.FinMap.{entries}
use Rattle.certificate_reading.specs.Nesting.{cell_entries, set_entries, task_entries}
use Rattle.certificate_reading.proofs.Rising.{below_raise, below_none, none_next}
use Rattle.certificate_reading.proofs.growing.Growing.end_task.Goals as goal

pub returns-clause-growing : goal.returns-clause-growing
returns-clause-growing c =
    let old = c.args.self.now in
    let l = c.requires.rises in
    record {
      tasks = below_raise (old.next.task + 1) c.args.task (entries c.put_sets.new.tasks) (omega (arith, l))
          c.in_ok-put_sets.ensures.below;
      sets = below_none c.args.set c.replace-sets.new.dest (c.replace-sets.ensures.after ∙ c.new-no_set.ensures);
      cells = below_none 0 c.replace-cells.new.dest (c.replace-cells.ensures.after ∙ c.new-no_cell.ensures);
      set = c.requires.small;
      cell = lit≤ tt;
    }

pub returns-clause-grown : goal.returns-clause-grown
returns-clause-grown c =
    let old = c.args.self.now in
    let task = old.next.task in
    none_next (entries c.put_sets.new.tasks) c.args.task c.args.set c.replace-sets.new.dest c.replace-cells.new.dest
    (c.replace-sets.ensures.after ∙ c.new-no_set.ensures) (c.replace-cells.ensures.after ∙ c.new-no_cell.ensures)
    ∙ (c.in_ok-put_sets.ensures.entries
    ∙ (ap (λ m. task_entries (entries old.tasks) (set_entries task (entries m) [])) c.replace-sets.ensures.value
    ∙ (ap (task_entries (entries old.tasks)) (c.in_ok-put_cells.ensures.entries task)
    ∙ ap (λ m. task_entries (entries old.tasks) (set_entries task (entries old.sets)
    (cell_entries task old.next.set (entries m) []))) c.replace-cells.ensures.value)))
