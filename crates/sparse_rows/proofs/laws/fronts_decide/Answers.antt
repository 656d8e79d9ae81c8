use Rattle.sparse_rows.specs.laws.Fronts.{front_adds, front_listed, front_targets}
use Rattle.sparse_rows.proofs.laws.fronts_decide.Goals as goal

pub returns-clause-targets : goal.returns-clause-targets
returns-clause-targets c = λ s t same action. front_targets s t same action

pub returns-clause-classes : goal.returns-clause-classes
returns-clause-classes c = λ around s t same action class listed. front_listed around s t same action class listed

pub returns-clause-adds : goal.returns-clause-adds
returns-clause-adds c = λ around s t same action other. front_adds around s t same action other
