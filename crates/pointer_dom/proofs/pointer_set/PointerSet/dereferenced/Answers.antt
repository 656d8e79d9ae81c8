use Rattle.pointer_dom.proofs.StandingFacts.{targets_are, all_reach}
use Rattle.pointer_dom.proofs.pointer_set.PointerSet.dereferenced.Goals as goal

pub returns-clause-pointers : goal.returns-clause-pointers
returns-clause-pointers g c =
    targets_are (g.L.Layout.alive c.args.layout.now) (g.L.Layout.stands c.args.layout.now) c.args.self.now c.objects.result.now c.objects.ensures.value
    c.in_ok-objects.objects c.from_parts.result c.in_ok-objects.ensures.objects c.from_parts.ensures

pub returns-clause-class : goal.returns-clause-class
returns-clause-class g c =
    all_reach (g.L.Layout.alive c.args.layout.now) (g.L.Layout.stands c.args.layout.now) c.args.self.now c.objects.result.now c.objects.ensures.value
    c.has_null.result c.has_invalid.result c.in_ok-objects.all c.has_null.ensures c.has_invalid.ensures c.in_ok-objects.ensures.all
