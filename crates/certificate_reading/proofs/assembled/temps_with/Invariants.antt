use Rattle.std.proofs.Common.{◌^◌, drop}
use Rattle.std.specs.FinMap.{entries}
use Rattle.std.specs.Vec.Iter.{into_iter_items}
use Rattle.certificate_reading.specs.reading.Bounds.{AreUnder}
use Rattle.certificate_reading.specs.reading.Parts.{temps_of}
use Rattle.certificate_reading.proofs.Assembling.{AreSoFar}
use Rattle.certificate_reading.proofs.assembled.temps_with.Given as goal

-- the temporaries so far, and those that are to come
abbrev pub invariant-loop-temp : goal.invariant-loop-temp
invariant-loop-temp l = record {
  far : AreSoFar (temps_of l.live l.fn.values.items l.fn.copies.items) (entries l.temps)
      (temps_of (drop l.temp-index l.live) (into_iter_items l.values_left) (into_iter_items l.copies_left))
      (drop l.temp-index l.live);
  copies : AreUnder (2 ^ 32) (into_iter_items l.copies_left);
}
