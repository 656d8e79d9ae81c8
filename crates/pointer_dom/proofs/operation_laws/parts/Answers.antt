use Rattle.std.proofs.Common.{◌≡◌, pos, refl}
use Rattle.pointer_dom.proofs.OperationMeaning.{advance_holds, advance_below}
use Rattle.pointer_dom.proofs.operation_laws.parts.Goals as goal

pub returns-clause-holds : goal.returns-clause-holds
returns-clause-holds c = λ cells p r object from offset h m e le. advance_holds (λ step. step ≡ pos cells) p r object from offset (pos cells) h m refl e le

pub returns-clause-grows : goal.returns-clause-grows
returns-clause-grows c = λ cells p p' r r' r-is below h h'. advance_below (λ step. step ≡ pos cells) (λ step. step ≡ pos cells) (λ v q. q) p p' below r r' r-is h h'
