use Rattle.access_partners.proofs.Back.{partners_back}
use Rattle.access_partners.proofs.laws.partners_are_mutual.Goals as goal

pub returns : goal.returns
returns c = λ p tables object e f h. partners_back p tables object e f h
