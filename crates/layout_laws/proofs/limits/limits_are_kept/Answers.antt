use Rattle.layout_laws.proofs.Kept.{limits_kept}
use Rattle.layout_laws.proofs.limits.limits_are_kept.Goals as goal

pub returns : goal.returns
returns c = limits_kept
