use Rattle.std.proofs.Common.{◌+◌, sym, ap, ◌∙◌}
use Rattle.tm_laid.specs.declared.objects.LaidObject.{LaidObject}
use Rattle.cell_placings.specs.CellLists.{is_in}
use Rattle.row_checks.specs.Passing.{all_below}
use Rattle.row_checks.proofs.Checked.{fails_below}
use Rattle.row_checks.proofs.checks.is_cleared_in.Goals as goal

pub returns-then-not-has : goal.returns-then-not-has
returns-then-not-has c =
    let o = c.object_at-cleared.result in
    let touched = c.args.touched.now in
    sym (fails_below (λ k. is_in touched (o.first_abstract + k)) c.loop-place.place
    (sym c.has.ensures ∙ c.if-not-has.true) o.abstract_cells c.loop-place-test.true)
    ∙ ap (λ (p : LaidObject). all_below (λ k. is_in touched (p.first_abstract + k)) p.abstract_cells)
    c.object_at-cleared.ensures
