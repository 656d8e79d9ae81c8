use Rattle.std.proofs.Common.{ap, map, refl}
use Rattle.std.specs.Prelude.{Err}
use Rattle.serde_json.specs.View.{view}
use Rattle.log_baselines.specs.reading.Seen.{value_seen}
use Rattle.log_baselines.proofs.Flaws.{err_is, other_remarks}
use Rattle.log_baselines.proofs.baselines.by_parts.Goals as goal

pub returns-in-Err-Flawed-clause-refused : goal.returns-in-Err-Flawed-clause-refused
returns-in-Err-Flawed-clause-refused c =
    λ cause e text is. other_remarks text c.args.remarks.now _ (view c.args.log.now) (value_seen c.args.new.now.run)
    (map value_seen c.args.new.now.results.items) is c.requires.parts.log_is
    (λ values are many. c.in-Err-Flawed.ensures.none c.in-Err-Flawed.field-0-0 are.0 (ap Err c.in-Err-Flawed.field-0-is) are.1)
    cause (err_is _ _ _ refl e)
