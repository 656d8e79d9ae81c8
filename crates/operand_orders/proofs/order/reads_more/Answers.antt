use Rattle.std.proofs.Common.{◌≡◌, ◌↔◌, ◌∙◌, sym, true, Bool}
use Rattle.std.proofs.lemmas.Bool.{true≢false}
use Rattle.std.proofs.lemmas.Result.{IfOk-weaker}
use Rattle.operand_orders.specs.Order.{ReadsMore}
use Rattle.operand_orders.specs.reading.Operands.{LoadsMore}
use Rattle.operand_orders.specs.reading.Views.{solved}
use Rattle.operand_orders.proofs.MoreRead.{not_before, not_behind, both_reached}
use Rattle.operand_orders.proofs.order.reads_more.Goals as goal

pub returns-then-not-before : goal.returns-then-not-before
returns-then-not-before c = (
  λ t. absurd (true≢false (sym t)),
  λ r. absurd (not_before (solved c.args.view) c.args.touches.now c.requires.touches c.args.first c.args.second
      (λ q. true≢false (sym (c.is_reached-before.ensures.1 q) ∙ c.if-not-before.true)) r),
)

pub returns-then-not-behind : goal.returns-then-not-behind
returns-then-not-behind c =
    let same = not_behind (solved c.args.view) c.args.touches.now c.requires.touches c.args.first c.args.second
    (c.is_reached-before.ensures.0 c.if-not-before.false)
    (λ q. true≢false (sym (c.is_reached-behind.ensures.1 q) ∙ c.if-not-behind.true)) in
    (λ x. same.0 (c.is_marked_in.ensures.0 x), λ r. c.is_marked_in.ensures.1 (same.1 r))

pub returns : goal.returns
returns c =
    let b = solved c.args.view in
    let one = c.args.first in
    let other = c.args.second in
    let same = both_reached b c.args.touches.now c.requires.touches one other
    (c.is_reached-behind.ensures.0 c.if-not-behind.false) in
    IfOk-weaker c.loads_more.result (λ (more : Bool). (more ≡ true) ↔ LoadsMore b one other)
    (λ (more : Bool). (more ≡ true) ↔ ReadsMore b one other)
    (λ r h. (λ x. same.0 (h.0 x), λ y. h.1 (same.1 y))) c.loads_more.ensures
