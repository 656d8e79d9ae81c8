use Rattle.std.proofs.Common.{◌≡◌, take, map}
use Rattle.tm_laid.specs.declared.objects.LaidObject.{LaidObject}
use Rattle.certificate_reading.proofs.pairs.sizes_of.Given as goal

-- the sizes so far
abbrev pub invariant-loop-object : goal.invariant-loop-object
invariant-loop-object l =
    l.sizes.items ≡ map (λ (o : LaidObject). o.cells) (take l.object-index l.laid.objects.items)
