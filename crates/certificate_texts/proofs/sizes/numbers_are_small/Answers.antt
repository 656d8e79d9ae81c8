use Rattle.std.proofs.Common.{List, subst, ◌<◌, ◌^◌, length, arith}
use Rattle.tm_laid.specs.declared.objects.LaidObject.{LaidObject}
use Rattle.certificate_texts.specs.reading.Smalls.{AreSmallObjects}
use Rattle.certificate_texts.proofs.Smallness.{small_numbers}
use Rattle.certificate_texts.proofs.sizes.numbers_are_small.Goals as goal

pub returns : goal.returns
returns c =
    let few : length c.args.program.now.laid.objects.items < 2 ^ 64 = omega arith in
    small_numbers c.args.program.now c.args.facts.now c.requires.analysable c.requires.facts few
    (subst (λ (os : List LaidObject). AreSmallObjects os (length os)) c.deref.ensures.value c.objects_are_small.ensures)
    c.bodies_are_small.ensures
