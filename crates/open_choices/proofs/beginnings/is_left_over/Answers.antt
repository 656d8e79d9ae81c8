use Rattle.std.proofs.Common.{◌↔◌, ◌⊎◌, inl, inr, IsTrue}
use Rattle.std.specs.Prelude.{Bool}
use Rattle.std.proofs.lemmas.Result.{IfOk-weaker}
use Rattle.operand_orders.specs.Reached.{SolvedBody, IsReached}
use Rattle.operand_orders.specs.reading.Views.{solved}
use Rattle.path_origins.specs.declared.origins.Life.{Life}
use Rattle.open_choices.specs.Lifetimes.{IsLeftOver}
use Rattle.open_choices.specs.reading.Left.{IsHeldByOthers, IsLeftHere}
use Rattle.open_choices.proofs.Leftover.{here_left, others_left, over}
use Rattle.open_choices.proofs.Searching.{is_found, not_so}
use Rattle.open_choices.proofs.beginnings.is_left_over.Goals as goal

pub returns-then-is_held_over : goal.returns-then-is_held_over
returns-then-is_held_over c =
    let h = c.is_held_over.ensures.0 c.if-is_held_over.true in
    is_found (others_left (solved c.args.view) c.args.life h.0 h.1)

here_only : (b : SolvedBody) (life : Life)
    → ((IsHeldByOthers b.store b.number life.object × IsReached b life.begins) → ⊥) → (x : Bool)
    → (IsTrue x ↔ IsLeftHere b life) → IsTrue x ↔ IsLeftOver b life
here_only b life none x h = (
  λ e. here_left b life (h.0 e),
  λ o. elim (over b life o) [ inl p ↦ absurd (none p) | inr q ↦ h.1 q ],
)

pub returns : goal.returns
returns c =
    let b = solved c.args.view in
    let life = c.args.life in
    IfOk-weaker c.is_left_here.result (λ x. IsTrue x ↔ IsLeftHere b life) (λ x. IsTrue x ↔ IsLeftOver b life)
    (here_only b life (not_so c.is_held_over.result c.is_held_over.ensures c.if-is_held_over.false))
    c.is_left_here.ensures
