use Rattle.std.proofs.Common.{sym, ◌^◌, subst}
use Rattle.std.specs.Vec.Iter.{into_iter_items}
use Rattle.certificate_reading.specs.reading.Bounds.{AreUnder}
use Rattle.certificate_reading.specs.reading.Parts.{temps_of}
use Rattle.certificate_reading.proofs.Assembling.{so_far_none, temps_more, under_behind}
use Rattle.certificate_reading.proofs.assembled.temps_with.Goals as goal

pub loop-temp-init : goal.loop-temp-init
loop-temp-init c =
    let live = c.args.live.now in
    let vs = c.into_iter-values_left.result in
    let cs = c.into_iter-copies_left.result in
    record {
      far = so_far_none (temps_of live c.args.values.items c.args.copies.items)
          (temps_of live (into_iter_items vs) (into_iter_items cs)) c.new-temps.result live c.new-temps.ensures
          (λ i. temps_of live (sym c.into_iter-values_left.ensures.rest i) (sym c.into_iter-copies_left.ensures.rest i))
          c.requires.rising;
      copies = subst (AreUnder (2 ^ 32)) (sym c.into_iter-copies_left.ensures.rest)
          c.requires.copies;
    }

pub loop-temp-preserved : goal.loop-temp-preserved
loop-temp-preserved c =
    let live = c.args.live.now in
    let cs = into_iter_items c.loop-temp.copies_left in
    let ds = into_iter_items c.next-in-loop-temp.new.self in
    record {
      far = temps_more (temps_of live c.args.values.items c.args.copies.items) c.loop-temp.temps c.put.new.self
          c.loop-temp.temp-index live (into_iter_items c.loop-temp.values_left) (into_iter_items c.next.new.self)
          c.in-Some.value cs ds c.in-Some-next.copy c.copy_of-copy.result c.loop-temp-test.true
          c.in-Some.ensures.cases.0 c.in-Some-next.ensures.cases.0 c.copy_of-copy.ensures
          (c.in_ok-put.ensures.written (λ none. none)) c.loop-temp.invariant.far;
      copies = under_behind (2 ^ 32) cs ds c.in-Some-next.copy c.in-Some-next.ensures.cases.0
          c.loop-temp.invariant.copies;
    }
