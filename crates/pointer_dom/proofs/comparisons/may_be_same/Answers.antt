use Rattle.pointer_dom.proofs.CommonFacts.{meet_is}
use Rattle.pointer_dom.proofs.comparisons.may_be_same.Goals as goal

pub returns : goal.returns
returns c =
    let p = c.args.p.now in
    let q = c.args.q.now in
    meet_is p q c.objects.ensures.within c.has_null.result c.has_null-2.result c.has_invalid.result c.has_invalid-2.result c.have_common_offset.result
    c.has_null.ensures c.has_null-2.ensures c.has_invalid.ensures c.has_invalid-2.ensures
    (rw (c.objects.ensures.value, c.objects-2.ensures.value) at c.have_common_offset.ensures)
