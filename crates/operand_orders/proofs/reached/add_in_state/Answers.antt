use Rattle.std.proofs.Common.{◌≡◌, ◌↔◌, ◌⊎◌, ◌∙◌, List, ℕ, subst}
use Rattle.std.specs.Prelude.{Contains}
use Rattle.std.proofs.lemmas.Result.{on_ok_weaker}
use Rattle.operand_orders.proofs.reached.add_in_state.Goals as goal

pub returns : goal.returns
returns c =
    on_ok_weaker c.add_cells.result
    (λ h p. subst (λ (cells : List ℕ). Contains c.add_cells.new.pairs.items p
    ↔ (Contains c.args.pairs.now.items p ⊎ ((p.first ≡ c.args.edge) × Contains cells p.second)))
    (c.deref.ensures ∙ c.in_ok-targets.ensures) (h p)) c.add_cells.ensures
