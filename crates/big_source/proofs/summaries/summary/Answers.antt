use Rattle.std.proofs.Common.{rules, append_assoc}
use Rattle.big_source.proofs.summaries.summary.Goals as goal

pub returns-in-Ok : goal.returns-in-Ok
returns-in-Ok c = let h = c.in-Ok.ensures.ok in simp append_assoc (search rules)
