use Rattle.std.proofs.Common.{refl}
use Rattle.certificate_reading.proofs.CellsRead.{kept_none}
use Rattle.certificate_reading.proofs.kept.Kept.new.Goals as goal

pub returns : goal.returns
returns c = λ laid shape. kept_none laid shape _ refl c.new.ensures.items c.new-2.ensures
