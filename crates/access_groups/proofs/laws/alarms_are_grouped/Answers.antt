use Rattle.access_groups.proofs.One.{grouped_alarms}
use Rattle.access_groups.proofs.laws.alarms_are_grouped.Goals as goal

pub returns : goal.returns
returns c = λ p tables report groups is are place. grouped_alarms p tables groups are place report is
