use Rattle.std.proofs.Common.{ap}
use Rattle.std.specs.Prelude.{option_map}
use Rattle.log_baselines.specs.reading.Seen.{text_seen}
use Rattle.log_baselines.proofs.baselines.by_any.Goals as goal

pub returns-in-Some-clause-refused : goal.returns-in-Some-clause-refused
returns-in-Some-clause-refused c =
    λ cause e. (c.in-Some.old.now, ap (option_map text_seen) c.in-Some.is, c.by_old.ensures.refused cause e)
