use Rattle.std.proofs.Common.{◌∙◌, ap, [], ◌+◌, lit≤, arith}
use Rattle.std.specs.FinMap.{entries}
use Rattle.certificate_reading.specs.Nesting.{cell_entries, set_entries, task_entries}
use Rattle.certificate_reading.proofs.Rising.{below_raise, below_none, none_cells}
use Rattle.certificate_reading.proofs.growing.Growing.end_set.Goals as goal

pub returns-clause-growing : goal.returns-clause-growing
returns-clause-growing c =
    let old = c.args.self.now in
    let l = c.requires.rises in
    record {
      tasks = c.requires.growing.tasks;
      sets = below_raise (old.next.set + 1) c.args.set (entries c.put_cells.new.sets) (omega (arith, l))
          c.in_ok-put_cells.ensures.below;
      cells = below_none 0 c.replace-cells.new.dest (c.replace-cells.ensures.after ∙ c.new-no_cell.ensures);
      set = c.requires.small;
      cell = lit≤ tt;
    }

pub returns-clause-grown : goal.returns-clause-grown
returns-clause-grown c =
    let old = c.args.self.now in
    let task = old.next.task in
    none_cells (entries old.tasks) task c.args.set (entries c.put_cells.new.sets) c.replace-cells.new.dest
    (c.replace-cells.ensures.after ∙ c.new-no_cell.ensures)
    ∙ (ap (task_entries (entries old.tasks)) (c.in_ok-put_cells.ensures.entries task)
    ∙ ap (λ m. task_entries (entries old.tasks) (set_entries task (entries old.sets)
    (cell_entries task old.next.set (entries m) []))) c.replace-cells.ensures.value)
