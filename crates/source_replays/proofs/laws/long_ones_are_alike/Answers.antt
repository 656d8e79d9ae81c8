use Rattle.source_replays.proofs.Alike.{long_ones_are_alike}
use Rattle.source_replays.proofs.laws.long_ones_are_alike.Goals as goal

pub returns : goal.returns
returns c = λ bytes more outcome text long h. long_ones_are_alike bytes more outcome text long h
