use Rattle.certificate_texts.specs.reading.Smalls.{AreSmallLists}
use Rattle.certificate_texts.proofs.sizes.lists_are_small.Given as goal

-- those of the lists so far are small
abbrev pub invariant-loop-index : goal.invariant-loop-index
invariant-loop-index l = AreSmallLists l.lists l.index
