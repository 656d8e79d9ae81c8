use Rattle.strided_dom.specs.Combinations.{IsProduct}
use Rattle.std.proofs.Common.{refl}
use Rattle.pointer_dom.proofs.OperationMeaning.{advance_holds, advance_below, safe_below, safe_stays, safe_null, safe_invalid}
use Rattle.pointer_dom.proofs.operation_laws.moves.Goals as goal

pub returns-clause-holds : goal.returns-clause-holds
returns-clause-holds c = λ by n counts p r object from offset h m k e le. advance_holds (IsProduct counts by) p r object from offset _ h m (record { factor = n; in_set = k; product = refl }) e le

pub returns-clause-classes : goal.returns-clause-classes
returns-clause-classes c = λ by n counts p object from h m k. safe_stays (IsProduct counts by) p object from _ h m (record { factor = n; in_set = k; product = refl })

pub returns-clause-classes_null : goal.returns-clause-classes_null
returns-clause-classes_null c = λ by counts p h m. safe_null (IsProduct counts by) p h m

pub returns-clause-classes_invalid : goal.returns-clause-classes_invalid
returns-clause-classes_invalid c = λ by counts p h m. safe_invalid (IsProduct counts by) p h m

pub returns-clause-grows : goal.returns-clause-grows
returns-clause-grows c = λ by s s' p p' r r' r-is below less h h'.
    advance_below (IsProduct s by) (IsProduct s' by) (λ v q. record { factor = q.factor; in_set = less.within q.factor q.in_set; product = q.product }) p p' below r r' r-is h h'

pub returns-clause-fewer : goal.returns-clause-fewer
returns-clause-fewer c = λ by s s' p p' sizes below less h.
    safe_below (IsProduct s by) (IsProduct s' by) (λ v q. record { factor = q.factor; in_set = less.within q.factor q.in_set; product = q.product }) p p' below sizes h
