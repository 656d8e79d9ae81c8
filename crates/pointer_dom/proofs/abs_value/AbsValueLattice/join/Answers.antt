use Rattle.std.proofs.Common.{◌∙◌}
use Rattle.pointer_dom.proofs.ValueFacts.{joined_by}
use Rattle.pointer_dom.proofs.abs_value.AbsValueLattice.join.Goals as goal

pub returns : goal.returns
returns c =
    c.from_parts.ensures
    ∙ joined_by c.args.self.now c.args.other.now c.numbers.result c.numbers-2.result c.hull-numbers.result c.pointers_or.result.now c.pointers_or-2.result.now c.in_ok-pointers.pointers
    c.numbers.ensures c.numbers-2.ensures c.pointers_or.ensures c.pointers_or-2.ensures c.hull-numbers.ensures c.in_ok-pointers.ensures
