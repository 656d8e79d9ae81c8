use Rattle.std.proofs.Common.{refl}
use Rattle.pointer_dom.specs.Advances.{IsElementStep}
use Rattle.pointer_dom.proofs.OperationMeaning.{advance_holds, advance_below}
use Rattle.pointer_dom.proofs.operation_laws.subscripts.Goals as goal

pub returns-clause-holds : goal.returns-clause-holds
returns-clause-holds c = λ n cells i s p r object from offset h m k sub e le.
    advance_holds (IsElementStep n cells s) p r object from offset _ h m (record { index = i; member = k; subscript = sub; step = refl }) e le

pub returns-clause-classes : goal.returns-clause-classes
returns-clause-classes c = λ n i s all m. all i m

pub returns-clause-grows : goal.returns-clause-grows
returns-clause-grows c = λ n cells s s' p p' r r' r-is below less h h'.
    advance_below (IsElementStep n cells s) (IsElementStep n cells s') (λ v q. record { index = q.index; member = less.within q.index q.member; subscript = q.subscript; step = q.step }) p p' below r r' r-is h h'

pub returns-clause-fewer : goal.returns-clause-fewer
returns-clause-fewer c = λ n s s' less all i m. all i (less.within i m)
