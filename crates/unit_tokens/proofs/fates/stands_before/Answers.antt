use Rattle.std.proofs.Common.{refl, rules, length}
use Rattle.std.proofs.lemmas.Option.{slice_get_read}
use Rattle.unit_tokens.proofs.fates.stands_before.Goals as goal

pub returns : goal.returns
returns c = λ b. record {
  other = c.in-Some.other.now;
  there = slice_get_read c.args.fated.now (length c.args.fated.now) c.args.number c.in-Some.other.now refl
      (c.in-Some.ensures.lookup.3.0) (c.in-Some.ensures.lookup.1);
  stays = search rules;
  same = c.is_same_shape.ensures c.if-not-is_same_shape.false;
  before = search rules;
}
