use Rattle.access_groups.proofs.One.{one_groups}
use Rattle.access_groups.proofs.laws.groups_are_one.Goals as goal

pub returns : goal.returns
returns c = one_groups
