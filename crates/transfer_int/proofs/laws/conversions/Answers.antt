use Rattle.transfer_int.proofs.Wrapping.{conversion_holds, conversion_grows}
use Rattle.transfer_int.proofs.laws.conversions.Goals as goal

pub returns-clause-holds : goal.returns-clause-holds
returns-clause-holds c = conversion_holds

pub returns-clause-grows : goal.returns-clause-grows
returns-clause-grows c = conversion_grows
