use Rattle.std.proofs.Common.{◌∙◌, ap, refl, sym}
use Rattle.std.specs.Prelude.{Err}
use Rattle.serde_json.specs.View.{view}
use Rattle.log_baselines.proofs.Flaws.{err_is, old_flaw}
use Rattle.log_baselines.proofs.PartCounts.{as_many}
use Rattle.log_baselines.proofs.baselines.by_old_log.Goals as goal

pub by_old_parts-requires-clause-old : goal.by_old_parts-requires-clause-old
by_old_parts-requires-clause-old c = as_many _ _ c.in-Ok.olds.results.items c.in-Ok.olds.keys.items c.in-Ok.ensures.ok

pub returns-in-Err-clause-refused : goal.returns-in-Err-clause-refused
returns-in-Err-clause-refused c =
    λ cause e old is. old_flaw old (view c.args.old_log.now) c.in-Err.unread is
    (λ flaw of. c.in-Err.ensures.flawed flaw (ap Err of)) cause (sym c.old_fail.ensures ∙ err_is _ _ _ refl e)
