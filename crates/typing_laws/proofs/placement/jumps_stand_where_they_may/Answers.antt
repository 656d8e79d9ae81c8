use Rattle.typing_laws.proofs.Jumps.{jumps_stand}
use Rattle.typing_laws.proofs.placement.jumps_stand_where_they_may.Goals as goal

pub returns : goal.returns
returns c = jumps_stand
