use Rattle.source_replays.proofs.Alike.{none_is_both}
use Rattle.source_replays.proofs.laws.none_is_both.Goals as goal

pub returns : goal.returns
returns c = λ bytes laid r h k. none_is_both bytes laid r h k
