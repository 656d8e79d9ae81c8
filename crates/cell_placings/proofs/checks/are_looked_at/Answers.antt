use Rattle.std.proofs.Common.{◌≡◌, ◌↔◌, ◌∙◌, ℕ, get_or, refl, sym, arith, true, subst}
use native.Mathlib.Decide.{dec_lt}
use Rattle.cell_placings.specs.CellLists.{is_in, cells_at}
use Rattle.cell_placings.proofs.Checking.{all_members}
use Rattle.cell_placings.proofs.checks.are_looked_at.Goals as goal

pub loop-cell-preserved : goal.loop-cell-preserved
loop-cell-preserved c = λ k lt.
    elim (dec_lt k c.loop-cell.cell-index) [
      | yes l ↦ c.loop-cell.invariant k l
      | no m ↦ (let here : c.loop-cell.cell-index ≡ k = omega (arith, m, lt) in
          subst (λ j. is_in (cells_at c.args.graph.now.looked.items c.args.edge)
          (get_or c.cells_at-touched.result.now j 0) ≡ true) here
          (subst (λ xs. is_in (cells_at xs c.args.edge) (get_or c.cells_at-touched.result.now c.loop-cell.cell-index 0) ≡ true)
          c.deref-in-loop-cell.ensures.value (sym c.has_cell.ensures ∙ c.if-not-has_cell.false)))
    ]

pub returns : goal.returns
returns c =
    let same : c.cells_at-touched.result.now ≡ cells_at c.args.graph.now.touched.items c.args.edge = cc in
    subst (λ xs. (true ≡ true) ↔ ((x : ℕ) → is_in xs x ≡ true
    → is_in (cells_at c.args.graph.now.looked.items c.args.edge) x ≡ true)) same
    (all_members (λ x. is_in (cells_at c.args.graph.now.looked.items c.args.edge) x) c.cells_at-touched.result.now true refl
    (λ k lt. c.loop-cell.invariant k (omega arith)))
