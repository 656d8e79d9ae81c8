use Rattle.std.proofs.Common.{sym, ◌∙◌}
use Rattle.access_partners.proofs.Racing.{same_points}
use Rattle.access_partners.proofs.pairs.is_same.Goals as goal

pub returns-then-is_like : goal.returns-then-is_like
returns-then-is_like c = λ t. record {
  like = c.is_like.ensures c.if-is_like.true;
  points = same_points c.args.one_points.now c.args.other_points.now (sym c.eq.ensures ∙ t);
}
