use Rattle.strided_dom.specs.Progression.{Has}
use Rattle.transfer_int.specs.Rows.{InRows}
use Rattle.transfer_int.proofs.TableWords.{by_words}
use Rattle.transfer_int.proofs.laws.wrappings.Goals as goal

pub returns-clause-sets : goal.returns-clause-sets
returns-clause-sets c = λ t r v. by_words t (Has r) r (record { sound = λ x h. h; complete = λ x h. h }) v

pub returns-clause-rows : goal.returns-clause-rows
returns-clause-rows c = λ op t a b r v exact. by_words t (InRows op t a b) r exact v
