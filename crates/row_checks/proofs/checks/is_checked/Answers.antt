use Rattle.std.proofs.Common.{◌∙◌, ap}
use Rattle.row_checks.specs.Passing.{passes}
use Rattle.row_checks.proofs.Checked.{checked_after}
use Rattle.row_checks.proofs.checks.is_checked.Goals as goal

pub returns : goal.returns
returns c =
    let a = c.args in
    let same = c.passes.ensures
    ∙ ap (λ xs. passes a.view.now a.touched.now a.carried.now a.looked.now a.traces.now xs a.store.now) c.as_slice.ensures in
    record {
      decides = same;
      checks = λ so s after.
          checked_after a.view.now a.touched.now a.carried.now a.looked.now a.traces.now a.after.now a.store.now c.passes.result same so
          s after;
    }
