use Rattle.report_reading.proofs.Assumed.{assumptions_utf8}
use Rattle.report_reading.proofs.assumptions.read_assumptions.Goals as goal

pub returns-in_default-clause-not_listing : goal.returns-in_default-clause-not_listing
returns-in_default-clause-not_listing c =
    λ is list small few e. c.in_default.ensures.cases.0 (assumptions_utf8 list c.args.text.now small few e)
