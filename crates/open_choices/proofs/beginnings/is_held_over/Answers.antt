use Rattle.open_choices.proofs.Searching.{not_found, not_so}
use Rattle.open_choices.proofs.beginnings.is_held_over.Goals as goal

pub returns-then-not-is_among : goal.returns-then-not-is_among
returns-then-not-is_among c =
    not_found (λ h. not_so c.is_among.result c.is_among.ensures c.if-not-is_among.true
    ((c.requires.others.exact c.args.life.object).1 h.0))

pub returns : goal.returns
returns c = (
  λ e. (
    (c.requires.others.exact c.args.life.object).0 (c.is_among.ensures.0 c.if-not-is_among.false),
    c.is_reached.ensures.0 e,
  ),
  λ h. c.is_reached.ensures.1 h.1,
)
