use Rattle.std.proofs.Common.{◌∙◌, sym, ap, to_z}
use Rattle.std.specs.Int.{w128}
use Rattle.std.proofs.lemmas.Int.{to_z-of_z}
use Rattle.certificate_parts.proofs.SetsRead.{flat_passed, spaced_passed}
use Rattle.certificate_parts.proofs.sets.only_set.Goals as goal

pub returns-then-stride-eq0 : goal.returns-then-stride-eq0
returns-then-stride-eq0 c =
    λ s k.
    flat_passed s c.args.low c.args.high c.args.stride _ c.one.result
    (sym (to_z-of_z _ _ c.ranges.stride) ∙ ap (to_z w128) c.if-stride-eq0.true) (to_z-of_z _ _ c.ranges.low) c.one.ensures k

pub returns : goal.returns
returns c =
    λ s k.
    spaced_passed s c.range.result c.args.low c.args.high c.args.stride _ _ _ c.requires.low c.requires.high k
    (to_z-of_z _ _ c.ranges.low) (to_z-of_z _ _ c.ranges.high) (to_z-of_z _ _ c.ranges.stride) c.range.ensures
