use Rattle.std.proofs.Common.{◌≡◌, ◌+◌, ◌-◌, ℕ, List, length, subst, sym, arith}
use Rattle.request_circles.specs.reading.Classes.{AreClasses}
use Rattle.request_circles.proofs.Shortest.{no_classes, one_class_more}
use Rattle.request_circles.proofs.classes.classes_of.Goals as goal

pub loop-number-init : goal.loop-number-init
loop-number-init c =
    no_classes c.args.requests.now c.new-heads.result.items c.new-numbers.result.items c.new-heads.ensures.items
    c.new-numbers.ensures.items

pub loop-number-preserved : goal.loop-number-preserved
loop-number-preserved c =
    let requests = c.args.requests.now in
    let n = c.loop-number.number in
    let new = c.add_head.new.heads in
    let last : c.len.result - 1 ≡ length new.items - 1 = omega (arith, c.len.ensures, new.ok.0) in
    subst (λ (ns : List ℕ). AreClasses requests new.items ns (n + 1)) (sym c.in_ok-push.ensures.items)
    (one_class_more requests c.loop-number.heads.items new.items c.loop-number.numbers.items n (c.len.result - 1)
    c.loop-number-test.true c.loop-number.invariant c.in_ok-add_head.ensures last)

pub returns : goal.returns
returns c =
    let end : c.loop-number.number ≡ length c.args.requests.now = omega arith in
    subst (AreClasses c.args.requests.now c.loop-number.heads.items c.loop-number.numbers.items) end
    c.loop-number.invariant
