use Rattle.certificate_texts.specs.reading.Smalls.{AreSmallBodies}
use Rattle.certificate_texts.proofs.sizes.bodies_are_small.Given as goal

-- those of the bodies so far are small
abbrev pub invariant-loop-body : goal.invariant-loop-body
invariant-loop-body l = AreSmallBodies l.program.configured.items l.facts.bodies l.body
