use Rattle.report_json.proofs.ReadBack.{reads_back}
use Rattle.report_json.proofs.laws.text_is_read_back.Goals as goal

pub returns : goal.returns
returns c = reads_back
