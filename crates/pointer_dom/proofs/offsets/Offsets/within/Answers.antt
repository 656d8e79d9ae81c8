use Rattle.std.proofs.Common.{◌≢◌, sym, ◌∙◌}
use Rattle.std.proofs.lemmas.Bool.{false≢true}
use Rattle.strided_dom.specs.Progression.{empty}
use Rattle.pointer_dom.proofs.OffsetFacts.{among_exactly, none_of, some_of, some_is}
use Rattle.pointer_dom.proofs.offsets.Offsets.within.Goals.{Else-is_empty}
use Rattle.pointer_dom.proofs.offsets.Offsets.within.Goals as goal

pub returns-then-is_empty : goal.returns-then-is_empty
returns-then-is_empty c =
    none_of c.args.size _ c.meet-offsets.result c.none.result c.none.ensures
    (among_exactly c.args.size c.args.set.now c.all_offsets.result c.meet-offsets.result c.all_offsets.ensures c.meet-offsets.ensures)
    (c.is_empty.ensures.0 c.if-is_empty.true)

some : (c : Else-is_empty) → c.meet-offsets.result ≢ empty
some c e = false≢true (sym c.if-is_empty.false ∙ c.is_empty.ensures.1 e)

pub invariant_of-result : goal.invariant_of-result
invariant_of-result c =
    some_is c.args.size c.meet-offsets.result c.args.set.now
    (among_exactly c.args.size c.args.set.now c.all_offsets.result c.meet-offsets.result c.all_offsets.ensures c.meet-offsets.ensures) (some c)

pub returns : goal.returns
returns c =
    some_of c.args.size _ c.meet-offsets.result
    (among_exactly c.args.size c.args.set.now c.all_offsets.result c.meet-offsets.result c.all_offsets.ensures c.meet-offsets.ensures) (some c)
