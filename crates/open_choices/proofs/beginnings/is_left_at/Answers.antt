use Rattle.std.proofs.Common.{◌≡◌, true, rules}
use Rattle.open_choices.proofs.beginnings.is_left_at.Goals as goal

pub returns : goal.returns
returns c =
    let told : c.points_to.result ≡ true = search rules in (
      (λ t. (c.if-object-life.false, c.points_to.ensures.0 told, c.is_open.ensures.0 t)),
      (λ h. c.is_open.ensures.1 h.2),
    )
