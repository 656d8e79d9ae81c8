use Rattle.std.proofs.Common.{◌↔◌, IsTrue, ap, subst}
use Rattle.operand_orders.specs.reading.Views.{solved}
use Rattle.open_choices.specs.reading.Left.{IsLeftAt}
use Rattle.open_choices.proofs.beginnings.is_left_in.Goals as goal

pub returns : goal.returns
returns c =
    subst (λ o. IsTrue c.is_left_at.result ↔ IsLeftAt (solved c.args.view) c.args.life o c.args.value.now)
    (ap (λ a. a.object) c.abstract_at.ensures) c.is_left_at.ensures
