use Rattle.std.proofs.Common.{◌≡◌, ◌<◌, ◌∙◌, ℕ, length, get_or, refl, sym, subst, arith, true}
use native.Mathlib.Decide.{dec_lt}
use Rattle.std.proofs.lemmas.Bool.{false≢true}
use Rattle.cell_placings.specs.OwnerTrees.{tree_of, owns_in}
use Rattle.cell_placings.proofs.Checking.{all_members}
use Rattle.cell_placings.proofs.Members.{in_at}
use Rattle.cell_placings.proofs.checks.are_owned.Goals as goal

pub loop-cell-preserved : goal.loop-cell-preserved
loop-cell-preserved c = λ k lt.
    elim (dec_lt k c.loop-cell.cell-index) [
      | yes l ↦ c.loop-cell.invariant k l
      | no m ↦ (let here : c.loop-cell.cell-index ≡ k = omega (arith, m, lt) in
          subst (λ j. owns_in (tree_of c.args.owners.now) c.args.node (get_or c.args.cells.now j 0) ≡ true) here
          (sym c.has.ensures ∙ c.if-not-has.false))
    ]

pub returns-then-not-has : goal.returns-then-not-has
returns-then-not-has c =
    let i : ℕ = c.loop-cell.cell-index in
    let lt : i < length c.args.cells.now = omega arith in (
      λ e. absurd (false≢true e),
      λ all. sym c.if-not-has.true ∙ c.has.ensures ∙ all (get_or c.args.cells.now i 0) (in_at c.args.cells.now i lt),
    )

pub returns : goal.returns
returns c =
    all_members (λ x. owns_in (tree_of c.args.owners.now) c.args.node x) c.args.cells.now true refl
    (λ k lt. c.loop-cell.invariant k (omega arith))
