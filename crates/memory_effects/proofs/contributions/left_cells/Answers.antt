use Rattle.std.proofs.Common.{◌≡◌, ◌+◌, ◌∙◌, ap, sym, subst, cond, Some}
use Rattle.std.specs.Option.{MatchOption}
use Rattle.tm_lattice.specs.Tables.{IsPast, IsNext}
use Rattle.tm_laid.specs.Layouts.{laid_tree}
use Rattle.pointer_dom.specs.Values.{no_value}
use Rattle.edge_effects.specs.calculations.transfer_rows.Reports.{left_by}
use Rattle.edge_actions.specs.Layouts.{is_shared_cell}
use Rattle.memory_effects.proofs.Contributing.{IsLeftBelow, left_start, left_put, left_skip, left_all, shown_some}
use Rattle.memory_effects.proofs.contributions.left_cells.Goals.{in-Some-2+in_ok-put, in_default-2}
use Rattle.memory_effects.proofs.contributions.left_cells.Goals as goal

pub loop-left-init : goal.loop-left-init
loop-left-init c = left_start (is_shared_cell (laid_tree c.args.view.now.laid.now)) c.args.mutex c.args.cells.now c.new-left.result c.new-left.ensures

pub loop-left-preserved : goal.loop-left-preserved
loop-left-preserved c =
    let cells = c.args.cells.now in
    let shared = is_shared_cell (laid_tree c.args.view.now.laid.now) in
    let m = c.args.mutex in
    let from = c.loop-left.from in
    let left = c.loop-left.left in
    let more = c.match-branch-4.left in
    let cell = c.in-Some.cell in
    let entry = c.in-Some.entry.now in
    let next = subst (λ o. MatchOption o (IsPast cells from) (λ e. IsNext cells from e.0 e.1.now)) c.in-Some.is c.in_ok-cell.ensures in
    subst (λ n. IsLeftBelow shared m cells (n + 1) more) (sym c.from-from.ensures) (elim c.match-branch-4.branch [
      | in-Some-2+in_ok-put w ↦ (let shown = sym w.in-Some-2.is ∙ c.in_ok-value.ensures in
          left_put shared m cells from left c.loop-left.invariant cell entry next more w.in-Some-2.value
          (w.left-is ∙ w.in_ok-put.ensures.written (shown_some w.in-Some-2.value (cond (shared cell) (left_by m (Some entry)) no_value) shown)) shown)
      | in_default-2 w ↦ left_skip shared m cells from left c.loop-left.invariant cell entry next more w.left-is (sym w.in_default-2.is ∙ c.in_ok-value.ensures)
    ])

pub returns : goal.returns
returns c =
    let cells = c.args.cells.now in
    let from = c.loop-left.from in
    left_all (is_shared_cell (laid_tree c.args.view.now.laid.now)) c.args.mutex cells from c.loop-left.left c.loop-left.invariant
    (subst (λ o. MatchOption o (IsPast cells from) (λ e. IsNext cells from e.0 e.1.now)) c.in_default.is c.in_ok-cell.ensures)
