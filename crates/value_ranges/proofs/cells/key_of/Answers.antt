use Rattle.std.proofs.Common.{◌≡◌, ◌↔◌, ℕ, Some, sym, subst}
use Rattle.tm_laid.specs.Layouts.{laid_tree}
use Rattle.value_ranges.specs.Ranges.{IsKeyOf}
use Rattle.value_ranges.proofs.cells.key_of.Goals as goal

pub returns-in-Cells : goal.returns-in-Cells
returns-in-Cells c =
    subst (λ g. (key : ℕ) → (c.own_key.result ≡ Some key) ↔ IsKeyOf g (laid_tree c.args.laid.now) key c.args.cell)
    (sym c.in-Cells.is) c.own_key.ensures
