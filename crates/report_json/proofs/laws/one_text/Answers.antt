use Rattle.report_json.proofs.ReadBack.{one_text}
use Rattle.report_json.proofs.laws.one_text.Goals as goal

pub returns : goal.returns
returns c = one_text
