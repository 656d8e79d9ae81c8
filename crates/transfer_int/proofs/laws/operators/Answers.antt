use Rattle.transfer_int.proofs.Failing.{error_holds}
use Rattle.transfer_int.proofs.Growing.{value_grows, fail_grows}
use Rattle.transfer_int.proofs.Holding.{value_holds}
use Rattle.transfer_int.proofs.laws.operators.Goals as goal

pub returns-clause-holds : goal.returns-clause-holds
returns-clause-holds c = value_holds

pub returns-clause-classes : goal.returns-clause-classes
returns-clause-classes c = error_holds

pub returns-clause-grows : goal.returns-clause-grows
returns-clause-grows c = value_grows

pub returns-clause-fewer : goal.returns-clause-fewer
returns-clause-fewer c = fail_grows
