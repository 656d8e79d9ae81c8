use Rattle.std.proofs.Common.{◌∙◌, ap, refl, sym}
use Rattle.std.specs.Prelude.{Err}
use Rattle.serde_json.specs.View.{view}
use Rattle.log_baselines.proofs.Flaws.{err_is, new_cause}
use Rattle.log_baselines.proofs.baselines.by_log.Goals as goal

pub returns-in-Err-clause-refused : goal.returns-in-Err-clause-refused
returns-in-Err-clause-refused c =
    λ cause e text is. new_cause text c.args.remarks.now _ (view c.args.log.now) c.in-Err.unread is
    (λ flaw of. c.in-Err.ensures.flawed flaw (ap Err of)) cause (sym c.new_fail.ensures ∙ err_is _ _ _ refl e)
