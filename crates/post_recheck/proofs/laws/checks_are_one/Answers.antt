use Rattle.post_recheck.proofs.One.{answer_is_one}
use Rattle.post_recheck.proofs.laws.checks_are_one.Goals as goal

pub returns : goal.returns
returns c = answer_is_one
