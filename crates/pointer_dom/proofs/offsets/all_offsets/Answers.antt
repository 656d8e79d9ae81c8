use Rattle.std.proofs.Common.{pos, subst, ◌∙◌, arith}
use Rattle.std.specs.Int.{w128}
use Rattle.std.proofs.lemmas.Int.{ints, to_z-of_z}
use Rattle.strided_dom.specs.Progression.{IsExactly, IsSpaced}
use Rattle.pointer_dom.proofs.OffsetFacts.{all_exactly}
use Rattle.pointer_dom.proofs.offsets.all_offsets.Goals as goal

pub returns : goal.returns
returns c =
    let top = to_z-of_z w128 c.from.result (omega (arith, ints, c.from.ensures)) ∙ c.from.ensures in
    all_exactly c.args.size c.range.result (subst (λ v. IsExactly (IsSpaced (pos 0) v 1) c.range.result) top c.range.ensures)
