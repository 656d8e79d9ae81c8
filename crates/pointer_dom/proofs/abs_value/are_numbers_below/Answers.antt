use Rattle.std.proofs.Common.{refl, sym, ◌∙◌}
use Rattle.pointer_dom.proofs.SameNumbers.{within_same}
use Rattle.pointer_dom.proofs.abs_value.are_numbers_below.Goals as goal

pub returns-then-eq : goal.returns-then-eq
returns-then-eq c = (λ yes. within_same c.args.one.now c.args.other.now (sym c.eq.ensures ∙ c.if-eq.true), λ within. refl)
