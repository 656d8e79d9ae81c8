use Rattle.pointer_dom.specs.Selections.{IsTarget}
use Rattle.pointer_dom.proofs.Meaning.{included}
use Rattle.pointer_dom.proofs.OperationMeaning.{hull_holds, hull_below}
use Rattle.pointer_dom.proofs.operation_laws.dereferences.Goals as goal

pub returns-clause-holds : goal.returns-clause-holds
returns-clause-holds g c = λ layout p r x h m q. hull_holds (IsTarget (g.L.Layout.alive layout) (g.L.Layout.stands layout) p) p r x h (m, q)

pub returns-clause-grows : goal.returns-clause-grows
returns-clause-grows g c = λ layout p p' r r' r-is below h h'.
    hull_below (IsTarget (g.L.Layout.alive layout) (g.L.Layout.stands layout) p) (IsTarget (g.L.Layout.alive layout) (g.L.Layout.stands layout) p') p p' r r'
    (λ x q. (included p p' x below q.0, q.1)) r-is below h h'

pub returns-clause-fewer : goal.returns-clause-fewer
returns-clause-fewer g c = λ layout p p' below all x m. all x (included p p' x below m)
