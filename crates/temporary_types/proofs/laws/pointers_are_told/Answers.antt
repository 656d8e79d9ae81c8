use Rattle.temporary_types.proofs.Telling.{told}
use Rattle.temporary_types.proofs.laws.pointers_are_told.Goals as goal

pub returns : goal.returns
returns c = λ laid sorts graph count h k inside temp d. told laid sorts graph count h k inside temp d
