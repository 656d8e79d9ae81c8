use Rattle.std.proofs.Common.{◌∙◌, sym, ap, arith}
use Rattle.std.specs.Option.{option_copied}
use Rattle.shared_tables.proofs.tables.SharedTable.entry_near.Goals as goal

-- the key itself comes first
pub returns-in-Some : goal.returns-in-Some
returns-in-Some g c = record {
  at_least = omega arith;
  stands = sym c.get_near.ensures ∙ ap option_copied c.in-Some.is;
  none_between = λ other from below. absurd (omega (arith, from, below));
}
