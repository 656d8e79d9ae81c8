use Rattle.certificate_texts.specs.reading.Smalls.{AreSmallObjects}
use Rattle.certificate_texts.proofs.sizes.objects_are_small.Given as goal

-- those of the objects so far are small
abbrev pub invariant-loop-object : goal.invariant-loop-object
invariant-loop-object l = AreSmallObjects l.objects l.object
