-- What the code holds, as the definitions see it.
use Rattle.std.specs.Prelude.{◌≡◌, ℕ, List}
use Rattle.log_baselines.specs.declared.baselines.Outcome.{Outcome}
use Rattle.report_baseline.specs.declared.top.Reply.{Reply}
use Rattle.report_baseline.specs.declared.words.Form.{Form}
use Rattle.report_baseline.specs.declared.words.Form.TheVariants.{Log, Standings}
use Rattle.report_baseline.specs.declared.words.Asked.{Asked as AskedCode}
use Rattle.report_baseline.specs.Words.{Asked}

-- the text of a form
abbrev pub text_of : Form → List ℕ → List ℕ → List ℕ
text_of Log log standings = log
text_of Standings log standings = standings

abbrev pub asked_seen : AskedCode → Asked
asked_seen asked = record { form = asked.form; new = asked.new.now; remarks = asked.remarks.now; old = asked.old.now }

-- the text of what comes out is that of the form
pub record IsFormed (form : Form) (outcome : Outcome) (reply : Reply) : Type 0 where
  pub text : reply.text.items ≡ text_of form outcome.log.items outcome.standings.items
  pub worse : reply.is_worse ≡ outcome.is_worse
