use Rattle.std.proofs.Common.{◌≡◌, ◌↔◌, refl, sym, ◌∙◌, true, Bool, inl, inr}
use Rattle.std.proofs.lemmas.Bool.{true≢false}
use Rattle.std.proofs.lemmas.Result.{IfOk-weaker}
use Rattle.operand_orders.specs.Order.{ReadsMore, Matters}
use Rattle.operand_orders.specs.Order.Matters.{reading}
use Rattle.operand_orders.specs.reading.Views.{solved}
use Rattle.operand_orders.proofs.Pairing.{matters_by, matters_back}
use Rattle.operand_orders.proofs.order.matters.Goals as goal

pub returns-then-do_touch : goal.returns-then-do_touch
returns-then-do_touch c = (
  λ t. matters_by (solved c.args.view) c.args.touches.now c.requires.touches c.args.first c.args.second
      (c.do_touch.ensures.0 c.if-do_touch.true),
  λ h. refl,
)

pub returns : goal.returns
returns c =
    let b = solved c.args.view in
    let one = c.args.first in
    let other = c.args.second in
    IfOk-weaker c.reads_more.result (λ (more : Bool). (more ≡ true) ↔ ReadsMore b one other)
    (λ (is : Bool). (is ≡ true) ↔ Matters b one other)
    (λ r h. (
      λ t. reading (h.0 t),
      λ m. h.1 (matters_back b c.args.touches.now c.requires.touches one other
          (λ o. true≢false (sym (c.do_touch.ensures.1 (inl o)) ∙ c.if-do_touch.false))
          (λ s. true≢false (sym (c.do_touch.ensures.1 (inr s)) ∙ c.if-do_touch.false)) m),
    )) c.reads_more.ensures
