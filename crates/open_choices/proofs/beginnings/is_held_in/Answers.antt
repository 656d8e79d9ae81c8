use Rattle.std.proofs.Common.{◌↔◌, ◌⊎◌, inl, inr, IsTrue}
use Rattle.std.specs.Prelude.{Bool}
use Rattle.std.proofs.lemmas.Result.{IfOk-weaker}
use Rattle.operand_orders.specs.reading.Views.{solved}
use Rattle.open_choices.specs.reading.Left.{IsHeldByTemp, IsHeldByCell}
use Rattle.open_choices.proofs.Searching.{is_found, not_so}
use Rattle.open_choices.proofs.beginnings.is_held_in.Goals as goal

pub returns-then-is_held_by_temp : goal.returns-then-is_held_by_temp
returns-then-is_held_by_temp c = is_found (inl (c.is_held_by_temp.ensures.0 c.if-is_held_by_temp.true))

either_test : (P Q : Type 0) → (P → ⊥) → (x : Bool) → (IsTrue x ↔ Q) → IsTrue x ↔ (P ⊎ Q)
either_test P Q none x h = (λ e. inr (h.0 e), λ s. elim s [ inl p ↦ absurd (none p) | inr q ↦ h.1 q ])

pub returns : goal.returns
returns c =
    let b = solved c.args.view in
    let life = c.args.life in
    let Temps = IsHeldByTemp c.args.state.now c.args.own life.object in
    let Cells = IsHeldByCell b life c.args.state.now in
    IfOk-weaker c.is_held_by_cell.result (λ x. IsTrue x ↔ Cells) (λ x. IsTrue x ↔ (Temps ⊎ Cells))
    (either_test Temps Cells (not_so c.is_held_by_temp.result c.is_held_by_temp.ensures c.if-is_held_by_temp.false))
    c.is_held_by_cell.ensures
