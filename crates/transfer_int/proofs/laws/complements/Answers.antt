use Rattle.transfer_int.proofs.Complementing.{complement_in, complement_bits, complement_holds}
use Rattle.transfer_int.proofs.laws.complements.Goals as goal

pub returns-clause-in_type : goal.returns-clause-in_type
returns-clause-in_type c = complement_in

pub returns-clause-bits : goal.returns-clause-bits
returns-clause-bits c = complement_bits

pub returns-clause-holds : goal.returns-clause-holds
returns-clause-holds c = complement_holds
